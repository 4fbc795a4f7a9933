use Rattle.std.proofs.Common.{◌≡◌, Some, map, take}
use Rattle.cl_runs.specs.declared.job.Job.{Job}
use Rattle.cl_chain.proofs.group_moments.arrivals_of.Given as goal

abbrev pub invariant-loop-job : goal.invariant-loop-job
invariant-loop-job l = l.arrivals ≡ map (λ (job : Job). Some job.arrival) (take l.job-index l.jobs)
