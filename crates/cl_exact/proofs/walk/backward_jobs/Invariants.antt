use Rattle.cl_exact.proofs.WalkFacts.{IsWalked}
use Rattle.cl_exact.proofs.walk.backward_jobs.Given as goal

abbrev pub invariant-loop-place : goal.invariant-loop-place
invariant-loop-place l = IsWalked l.beats l.place l.last l.jobs

abbrev pub decreases-loop-place : goal.decreases-loop-place
decreases-loop-place l = l.place
