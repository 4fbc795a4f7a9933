use Rattle.std.proofs.Common.{◌≡◌, take}
use Rattle.cl_traces.proofs.copying.copy_jobs.Given as goal

abbrev pub invariant-loop-job : goal.invariant-loop-job
invariant-loop-job l = l.copy ≡ take l.job-index l.job-items
