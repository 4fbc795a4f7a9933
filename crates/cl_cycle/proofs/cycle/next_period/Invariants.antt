use Rattle.std.proofs.Common.{◌+◌, ◌<◌, ◌≤◌, take}
use Rattle.cl_model.specs.declared.limits.TheConstants.{MOST_TICKS}
use Rattle.cl_cycle.specs.Inner.Gathering.{AreNoneBetween}
use Rattle.cl_cycle.proofs.cycle.next_period.Given as goal

-- no period so far lies between
abbrev pub invariant-loop-other : goal.invariant-loop-other
invariant-loop-other l = record {
  later : l.period < l.least;
  few : l.least ≤ MOST_TICKS + 1;
  none_between : AreNoneBetween l.model l.task l.period l.least (take l.other-index l.other-items);
}
