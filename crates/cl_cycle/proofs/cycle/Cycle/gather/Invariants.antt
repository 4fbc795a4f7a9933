use Rattle.std.proofs.Common.{◌+◌, ◌-◌, ◌≤◌, length}
use Rattle.arrayvec.specs.ArrayVec.{array_vec_len}
use Rattle.cl_model.specs.declared.limits.TheConstants.{MOST_TICKS, MOST_TASKS_OF_CORE}
use Rattle.cl_cycle.proofs.GatheredPeriods.{later_above, IsGatheredUpTo}
use Rattle.cl_cycle.proofs.cycle.Cycle.gather.Given as goal

-- those up to this period have joined, and there is room for the others
abbrev pub invariant-loop-next : goal.invariant-loop-next
invariant-loop-next l = record {
  few : l.period ≤ MOST_TICKS;
  room : array_vec_len l.cycle.in_phase + length (later_above l.model l.task l.period) ≤ MOST_TASKS_OF_CORE;
  gathered : IsGatheredUpTo l.model l.task l.period l.cycle;
}

abbrev pub decreases-loop-next : goal.decreases-loop-next
decreases-loop-next l = MOST_TICKS - l.period
