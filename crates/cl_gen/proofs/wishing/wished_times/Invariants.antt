use Rattle.cl_gen.proofs.WishedTimes.{LieInFirst}
use Rattle.cl_gen.proofs.wishing.wished_times.Given as goal

-- the times so far
abbrev pub invariant-loop-place : goal.invariant-loop-place
invariant-loop-place g l = LieInFirst l.runnables l.place l.times
