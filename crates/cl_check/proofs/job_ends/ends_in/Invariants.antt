use Rattle.std.proofs.Common.{◌≡◌, ◌-◌, ◌^◌, ◌≤◌, min, length, take}
use Rattle.std.specs.Prelude.{sum, sum_by}
use Rattle.cl_runs.specs.declared.job.Job.{Job}
use Rattle.cl_run_data.specs.Stretches.{entries_from}
use Rattle.cl_check.specs.Inner.Walks.{StandsIn, AreEndsIn}
use Rattle.cl_check.proofs.job_ends.ends_in.Given as goal

abbrev pub invariant-loop-job : goal.invariant-loop-job
invariant-loop-job l = record {
  stands : StandsIn l.stretches l.task l.walk;
  ahead : l.walk.executed ≤ l.done;
  done : l.done ≡ min (sum_by (λ (job : Job). sum job.times) (take l.job-index l.jobs)) (2 ^ 64 - 1);
  one_a_job : length l.ends ≡ l.job-index;
  ends : AreEndsIn l.end (entries_from 0 l.stretches) l.jobs l.task l.place l.ends;
}
