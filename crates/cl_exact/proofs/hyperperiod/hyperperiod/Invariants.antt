use Rattle.cl_exact.specs.Inner.Periods.{IsLeastOfFirst}
use Rattle.std.proofs.Common.{◌≤◌}
use Rattle.cl_exact.proofs.hyperperiod.hyperperiod.Given as goal

abbrev pub invariant-loop-beat : goal.invariant-loop-beat
invariant-loop-beat l = record {
  least : IsLeastOfFirst l.beats l.beat-index l.hyperperiod;
  within : l.hyperperiod ≤ l.limit;
}
