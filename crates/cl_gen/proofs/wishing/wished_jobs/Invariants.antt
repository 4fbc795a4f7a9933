use Rattle.std.proofs.Common.{◌-◌, map}
use Rattle.std.specs.Prelude.{All}
use Rattle.std.specs.List.{AllZip}
use Rattle.cl_runs.specs.{declared.job.Job.Job, SystemOf.range_of, Table.LiesIn}
use Rattle.cl_gen.proofs.WishedJobs.{FollowSoFar}
use Rattle.cl_gen.proofs.wishing.wished_jobs.Given as goal

-- the first jobs follow the pattern, also with the next arrival
abbrev pub invariant-loop-arrival : goal.invariant-loop-arrival
invariant-loop-arrival g l = record {
  arrivals : FollowSoFar l.pattern l.ticks l.jobs l.arrival;
  times : All (λ (job : Job). AllZip LiesIn (map range_of l.runnables) job.times) l.jobs;
}

abbrev pub decreases-loop-arrival : goal.decreases-loop-arrival
decreases-loop-arrival g l = l.ticks - l.arrival
