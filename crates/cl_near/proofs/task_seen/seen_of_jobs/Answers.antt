use Rattle.std.proofs.Common.{◌<◌, inl, inr, length, get_or, subst, arith}
use Rattle.std.proofs.lemmas.List.{get_or_default}
use Rattle.std.specs.Prelude.{None}
use Rattle.cl_runs.specs.{declared.job.Job.Job, Table.no_job}
use Rattle.cl_near.specs.Inner.SeenJobs.{HasTaken}
use Rattle.cl_near.proofs.task_seen.seen_of_jobs.Goals as goal

pub loop-place-preserved : goal.loop-place-preserved
loop-place-preserved c =
    let before = c.loop-place.invariant in
    let jobs = c.args.jobs.now in
    let place = c.loop-place.place in
    let within : place < length jobs = omega (arith, c.loop-place-test.true, c.requires.as_many) in
    record {
      missed = λ which. before.missed (c.or_job-seen.ensures.missed which);
      response = λ ticks which. elim (c.or_job-seen.ensures.response ticks which) [
        | inl same ↦ before.response ticks same
        | inr taken ↦ record {
          job = place;
          in_table = within;
          taken = subst (λ (job : Job). HasTaken job.arrival (get_or c.args.finishes.now place None) ticks)
              (get_or_default jobs place c.index-jobs-place.result no_job within) taken;
        }
      ];
    }
