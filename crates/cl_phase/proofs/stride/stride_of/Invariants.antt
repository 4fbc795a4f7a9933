use Rattle.std.proofs.Common.{◌≤◌}
use Rattle.cl_phase.specs.declared.stride.TheConstants.{MOST_TURNS}
use Rattle.cl_phase.proofs.stride.stride_of.Given as goal

abbrev pub invariant-loop-turns : goal.invariant-loop-turns
invariant-loop-turns l = record {
  some : 1 ≤ l.best;
  few : l.best ≤ MOST_TURNS;
}
