use Rattle.std.proofs.Common.{◌≡◌, take}
use Rattle.cl_chain.proofs.heads.first_heads.Given as goal

abbrev pub invariant-loop-read : goal.invariant-loop-read
invariant-loop-read l = l.heads ≡ take l.read-index l.reads
