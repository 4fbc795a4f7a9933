use Rattle.std.proofs.Common.{length, ◌-◌, ◌≤◌}
use Rattle.cl_check.specs.Inner.Walks.{StandsIn}
use Rattle.cl_check.proofs.walk.Walk.seek.Given as goal

abbrev pub invariant-loop-self : goal.invariant-loop-self
invariant-loop-self l = StandsIn l.stretches l.task l.self × (l.self.executed ≤ l.work)

abbrev pub decreases-loop-self : goal.decreases-loop-self
decreases-loop-self l = length l.stretches - l.self.place
