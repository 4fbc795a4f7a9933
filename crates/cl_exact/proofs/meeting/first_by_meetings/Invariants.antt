use Rattle.std.proofs.Common.{◌-◌, ◌≤◌}
use Rattle.cl_exact.specs.Inner.Scans.{NoneHas}
use Rattle.cl_exact.proofs.meeting.first_by_meetings.Given as goal

-- none of the first jobs up to this one has the reaction
abbrev pub invariant-loop-job : goal.invariant-loop-job
invariant-loop-job l = record {
  from : l.first ≤ l.job;
  none : NoneHas l.beats l.first (l.job - l.first) l.reaction;
}

abbrev pub decreases-loop-job : goal.decreases-loop-job
decreases-loop-job l = l.end - l.job
