use Rattle.std.proofs.Common.{◌≡◌, length}
use Rattle.cl_incr.proofs.put.blank_verdicts.Given as goal

abbrev pub invariant-loop : goal.invariant-loop
invariant-loop l = length l.verdicts ≡ l.counter
