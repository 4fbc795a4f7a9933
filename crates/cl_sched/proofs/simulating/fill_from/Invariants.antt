use Rattle.std.proofs.Common.{◌≡◌, ◌-◌, ◌≤◌}
use Rattle.cl_runs.specs.SystemOf.{system_of}
use Rattle.cl_sched.proofs.Filled.{IsFilledTo}
use Rattle.cl_sched.proofs.simulating.fill_from.Given as goal

-- the core is filled up to where it is reached
abbrev pub invariant-events : goal.invariant-events
invariant-events l = record {
  filled : IsFilledTo (system_of l.model) l.core l.fn.run l.run l.reached;
  end : l.end ≡ l.fn.run.table.ticks;
  within : l.reached.tick ≤ l.end;
}

abbrev pub decreases-events : goal.decreases-events
decreases-events l = l.end - l.reached.tick
