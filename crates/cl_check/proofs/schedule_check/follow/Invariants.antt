use Rattle.std.proofs.Common.{◌-◌}
use Rattle.cl_runs.specs.SystemOf.{system_of}
use Rattle.cl_check.specs.Inner.Following.{IsFollowed, Lasts}
use Rattle.cl_check.proofs.schedule_check.follow.Given as goal

-- the core is followed, and the rest of the stretch lies ahead
abbrev pub invariant-events : goal.invariant-events
invariant-events l = record {
  followed : IsFollowed (system_of l.model) l.run l.core l.reached;
  lasts : Lasts l.run l.core l.reached.tick l.stretch;
}

abbrev pub decreases-events : goal.decreases-events
decreases-events l = l.stretch.end - l.reached.tick
