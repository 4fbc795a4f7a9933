use Rattle.std.proofs.Common.{◌≡◌, false, replicate}
use Rattle.cl_near.proofs.cores.no_cores.Given as goal

abbrev pub invariant-loop : goal.invariant-loop
invariant-loop l = l.cores ≡ replicate l.counter false
