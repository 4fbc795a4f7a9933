use Rattle.std.proofs.Common.{◌≡◌, ℕ, ◌-◌, ◌<◌, Option, List, length, sym, ap, subst, ◌∙◌, arith}
use Rattle.std.specs.Prelude.{All}
use Rattle.std.proofs.lemmas.List.{get_or_default}
use Rattle.cl_model.specs.{declared.{model.SystemModel.SystemModel, task.TaskDef.TaskDef}, ByNumber.task_at}
use Rattle.cl_runs.specs.{declared.job.{Job.Job, JobTable.JobTable}, Run.{Run, jobs_of, IsInForm}, SystemOf.system_of, Table.{no_job, table_jobs}, TaskTiming.timing_at}
use Rattle.cl_runs.proofs.ModelSystem.{count_is, range_count_is}
use Rattle.cl_check.specs.{declared.job_ends.End.TheVariants.Finish, JobMoments.AreEndsOfJobs}
use Rattle.cl_observe.proofs.ShownTasks.{times_shown}
use Rattle.cl_observe.proofs.task_shown.shown_time.Goals as goal

-- each job of a run in form has a time of each runnable
have_times : (model : SystemModel) (run : Run) → IsInForm (system_of model) run → (task place : ℕ) → task < length model.tasks
    → place < length (task_at model task).runnables → (jobs : List Job) → jobs ≡ jobs_of run task → All (λ (job : Job). place < length job.times) jobs
have_times model run in_form task place is within jobs same = subst (λ (list : List Job). All (λ (job : Job). place < length job.times) list) (sym same) each
  where
    each : All (λ (job : Job). place < length job.times) (jobs_of run task)
    each k d there = omega (
      arith,
      within,
      range_count_is model task is,
      in_form.times task k (omega (arith, is, count_is model)) there,
      ap (λ (job : Job). length job.times) (get_or_default (jobs_of run task) k d no_job there),
    )

pub ends_apart-requires-clause-times : goal.ends_apart-requires-clause-times
ends_apart-requires-clause-times c = (c.requires.in_order c.args.task (omega (arith, c.requires.task, count_is c.args.model.now))).times

pub jobs_of-jobs-requires : goal.jobs_of-jobs-requires
jobs_of-jobs-requires c =
    omega (arith, c.requires.task, c.requires.in_form.tasks, count_is c.args.model.now, ap (λ (t : JobTable). length t.jobs) c.table.ensures)

pub times-requires-clause-places : goal.times-requires-clause-places
times-requires-clause-places c = have_times c.args.model.now c.args.run.now c.requires.in_form c.args.task c.args.place c.requires.task c.requires.place
    c.jobs_of-jobs.result.now (c.jobs_of-jobs.ensures ∙ ap (λ (t : JobTable). table_jobs t c.args.task) c.table.ensures)

pub times-requires-2-clause-places : goal.times-requires-2-clause-places
times-requires-2-clause-places c = have_times c.args.model.now c.args.run.now c.requires.in_form c.args.task c.args.place c.requires.task c.requires.place
    c.jobs_of-jobs.result.now (c.jobs_of-jobs.ensures ∙ ap (λ (t : JobTable). table_jobs t c.args.task) c.table.ensures)

pub returns-then-place-runnables : goal.returns-then-place-runnables
returns-then-place-runnables c =
    let model = c.args.model.now in
    let jobs : c.jobs_of-jobs.result.now ≡ jobs_of c.args.run.now c.args.task
    = c.jobs_of-jobs.ensures ∙ ap (λ (t : JobTable). table_jobs t c.args.task) c.table.ensures in
    let last : length (timing_at (system_of model) c.args.task).ranges - 1 ≡ c.args.place
    = omega (
      arith,
      range_count_is model c.args.task c.requires.task,
      c.len-runnables.ensures,
      ap (λ (task : TaskDef). length task.runnables) c.task.ensures.task,
      c.if-place-runnables.true,
    ) in
    times_shown (system_of model) c.args.run.now c.args.task c.args.place c.args.finishes.now
    (subst (λ place. AreEndsOfJobs Finish (system_of model) c.args.run.now c.args.task place c.args.finishes.now) last c.requires.finishes)
    c.jobs_of-jobs.result.now c.times.result jobs c.times.ensures

pub returns : goal.returns
returns c =
    let model = c.args.model.now in
    let jobs : c.jobs_of-jobs.result.now ≡ jobs_of c.args.run.now c.args.task
    = c.jobs_of-jobs.ensures ∙ ap (λ (t : JobTable). table_jobs t c.args.task) c.table.ensures in
    times_shown (system_of model) c.args.run.now c.args.task c.args.place c.as_slice.result.now
    (subst (λ (list : List (Option ℕ)). AreEndsOfJobs Finish (system_of model) c.args.run.now c.args.task c.args.place list)
    (sym c.as_slice.ensures) c.in_ok-own.ensures)
    c.jobs_of-jobs.result.now c.times-2.result jobs c.times-2.ensures
