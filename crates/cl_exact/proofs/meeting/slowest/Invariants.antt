use Rattle.std.proofs.Common.{◌<◌, length}
use Rattle.cl_exact.proofs.meeting.slowest.Given as goal

abbrev pub invariant-loop-place : goal.invariant-loop-place
invariant-loop-place l = l.slowest < length l.beats
