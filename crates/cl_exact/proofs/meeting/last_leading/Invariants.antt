use Rattle.cl_exact.proofs.Meetings.{IsLedBack}
use Rattle.cl_exact.proofs.meeting.last_leading.Given as goal

abbrev pub invariant-loop-at : goal.invariant-loop-at
invariant-loop-at l = IsLedBack l.beats l.first l.place l.job l.at l.last

abbrev pub decreases-loop-at : goal.decreases-loop-at
decreases-loop-at l = l.at
