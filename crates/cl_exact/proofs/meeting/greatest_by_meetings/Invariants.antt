use Rattle.cl_exact.proofs.Meetings.{IsGreatestUpTo}
use Rattle.std.proofs.Common.{◌-◌}
use Rattle.cl_exact.proofs.meeting.greatest_by_meetings.Given as goal

abbrev pub invariant-loop-job : goal.invariant-loop-job
invariant-loop-job l = IsGreatestUpTo l.beats l.first l.end l.job l.greatest

abbrev pub decreases-loop-job : goal.decreases-loop-job
decreases-loop-job l = l.end - l.job
