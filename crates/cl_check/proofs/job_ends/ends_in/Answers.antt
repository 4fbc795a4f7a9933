use Rattle.std.proofs.Common.{◌≡◌, ℕ, ◌<◌, ◌≤◌, List, [], ◌∷◌, length, ap, ◌∙◌, arith}
use Rattle.std.specs.Prelude.{slice_index}
use Rattle.std.proofs.lemmas.List.{get_or_default, length-append}
use Rattle.cl_runs.specs.{declared.job.Job.Job, Table.{no_job, job_at}}
use Rattle.cl_check.proofs.MomentsFound.{done_next, ahead_next, ends_pushed}
use Rattle.cl_check.proofs.job_ends.ends_in.Goals as goal

pub loop-job-preserved : goal.loop-job-preserved
loop-job-preserved c =
    let here : c.loop-job.job-index < length c.args.jobs.now = omega arith in
    let same : c.as_slice-times.result.now ≡ (job_at c.args.jobs.now c.loop-job.job-index).times
    = c.as_slice-times.ensures ∙ ap (λ (job : Job). job.times) (c.job-item.is ∙ get_or_default c.args.jobs.now c.loop-job.job-index _ no_job here) in
    let within : c.args.place < length c.as_slice-times.result.now
    = omega (arith, ap length same, c.requires.places c.loop-job.job-index no_job here) in
    let some : 1 ≤ slice_index c.as_slice-times.result.now c.args.place
    = omega (arith, ap (λ (xs : List ℕ). slice_index xs c.args.place) same, c.requires.times c.loop-job.job-index no_job here) in
    record {
      stands = c.end_after.ensures.stands;
      ahead = rw c.time_after-done.ensures (ahead_next c.args.jobs.now c.args.place c.loop-job.job-index here _ same within
          _ _ c.loop-job.invariant.done c.time_after-before.ensures _ c.end_after.ensures.ahead);
      done = c.time_after-done.ensures ∙ done_next c.args.jobs.now c.args.place c.loop-job.job-index here _ same within
          _ _ c.loop-job.invariant.done c.time_after-before.ensures;
      one_a_job = omega (arith, ap length c.in_ok-push.ensures.ok, length-append c.loop-job.ends (c.end_after.result ∷ []), c.loop-job.invariant.one_a_job);
      ends = rw c.in_ok-push.ensures.ok (ends_pushed c.args.jobs.now c.args.place c.loop-job.job-index here _ same within
          _ _ c.loop-job.invariant.done c.time_after-before.ensures _ c.requires.fits c.args.task c.args.end c.loop-job.ends c.end_after.result
          c.loop-job.invariant.one_a_job c.loop-job.invariant.ends some c.end_after.ensures.end);
    }
