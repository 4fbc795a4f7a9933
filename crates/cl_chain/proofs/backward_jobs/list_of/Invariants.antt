use Rattle.std.proofs.Common.{◌≡◌, take}
use Rattle.cl_chain.proofs.backward_jobs.list_of.Given as goal

abbrev pub invariant-loop-number : goal.invariant-loop-number
invariant-loop-number l = l.list ≡ take l.number-index l.numbers
