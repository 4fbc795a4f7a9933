use Rattle.std.proofs.Common.{◌≡◌, true, replicate}
use Rattle.cl_near.proofs.witness.all_cores.Given as goal

-- so far all cores are marked
abbrev pub invariant-loop : goal.invariant-loop
invariant-loop l = l.cores ≡ replicate l.counter true
