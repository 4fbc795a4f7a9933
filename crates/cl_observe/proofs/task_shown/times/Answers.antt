use Rattle.std.proofs.Common.{◌≡◌, ℕ, ◌+◌, ◌<◌, Option, List, length, sym, ap, subst, ◌∙◌, arith}
use Rattle.std.specs.Prelude.{slice_index}
use Rattle.std.proofs.lemmas.List.{get_or_default}
use Rattle.cl_runs.specs.{declared.job.Job.Job, Table.{no_job, job_at}}
use Rattle.cl_observe.specs.{declared.values.Spread.Spread, Values.IsSpreadOf, Inner.{Choices.or_time, JobLists.{HasListedTime, HasBelow, finish_at}}}
use Rattle.cl_observe.proofs.ListedJobs.{none_below, time_next, times_all}
use Rattle.cl_observe.proofs.task_shown.times.Goals as goal

pub loop-job-init : goal.loop-job-init
loop-job-init c = none_below (HasListedTime c.args.jobs.now c.args.finishes.now c.args.place)

pub returns : goal.returns
returns c =
    times_all c.args.jobs.now c.args.finishes.now c.args.place c.loop-job.job c.loop-job.spread (omega (arith, c.loop-job-test.false)) c.loop-job.invariant

pub loop-job-preserved : goal.loop-job-preserved
loop-job-preserved c =
    let jobs = c.args.jobs.now in
    let finishes = c.args.finishes.now in
    let job = c.loop-job.job in
    let within : job < length jobs = omega (arith, c.loop-job-test.true, c.requires.as_many) in
    let same = get_or_default jobs job c.index-jobs-job.result no_job within in
    let time : slice_index c.as_slice.result.now c.args.place ≡ slice_index (job_at jobs job).times c.args.place
    = ap (λ (times : List ℕ). slice_index times c.args.place) (c.as_slice.ensures ∙ ap (λ (j : Job). j.times) same) in
    subst (λ (spread : Option Spread). IsSpreadOf (HasBelow (job + 1) (HasListedTime jobs finishes c.args.place)) spread)
    (sym (c.or_time-spread.ensures ∙ ap (λ n. or_time c.loop-job.spread n (finish_at finishes job)) time))
    (time_next jobs finishes c.args.place job c.loop-job.spread c.loop-job.invariant)
