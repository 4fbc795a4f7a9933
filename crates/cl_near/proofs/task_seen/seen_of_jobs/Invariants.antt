use Rattle.cl_near.specs.Inner.SeenJobs.{IsSeenOfJobs}
use Rattle.cl_near.proofs.task_seen.seen_of_jobs.Given as goal

-- what is seen so far is so
abbrev pub invariant-loop-place : goal.invariant-loop-place
invariant-loop-place l = IsSeenOfJobs l.jobs l.finishes l.deadline l.ticks l.seen
