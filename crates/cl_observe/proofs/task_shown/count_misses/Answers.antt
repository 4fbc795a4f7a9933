use Rattle.std.proofs.Common.{ℕ, ◌+◌, ◌<◌, length, cond, ap, ◌∙◌, arith}
use Rattle.std.proofs.lemmas.List.{get_or_default}
use Rattle.cl_runs.specs.{declared.job.Job.Job, Table.{no_job, job_at}}
use Rattle.cl_observe.specs.Inner.JobLists.{finish_at, is_unfinished, IsJobUnfinished}
use Rattle.cl_observe.proofs.{OneValue.counts_few, ListedJobs.{once_or_not, at_most_one, one_counted}}
use Rattle.cl_observe.proofs.task_shown.count_misses.Goals as goal

pub overflow_add-count : goal.overflow_add-count
overflow_add-count c = omega (
  arith,
  counts_few (IsJobUnfinished c.args.jobs.now c.args.finishes.now c.args.deadline c.args.ticks) c.loop-place.place c.loop-place.count c.loop-place.invariant,
  c.loop-place-test.true,
  c.from-count.ensures,
  at_most_one c.misses-missed.result,
)

pub loop-place-preserved : goal.loop-place-preserved
loop-place-preserved c =
    let jobs = c.args.jobs.now in
    let finishes = c.args.finishes.now in
    let place = c.loop-place.place in
    let within : place < length jobs = omega (arith, c.loop-place-test.true, c.requires) in
    let same = get_or_default jobs place c.index-jobs-place.result no_job within in
    let missed = c.misses-missed.ensures
    ∙ ap (λ (job : Job). is_unfinished (job.arrival + c.args.deadline) c.args.ticks (finish_at finishes place)) same in
    one_counted (λ k. is_unfinished ((job_at jobs k).arrival + c.args.deadline) c.args.ticks (finish_at finishes k)) place c.loop-place.count _
    c.loop-place.invariant
    (omega (arith, c.from-count.ensures, once_or_not c.misses-missed.result, ap {B = ℕ} (λ b. cond b 1 0) missed))
