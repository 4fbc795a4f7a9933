-- The jobs of a task of a valid model, where the table is lawful at its core.
use Rattle.std.proofs.Common.{◌≡◌, ℕ, ◌<◌, inl, inr, List, length, refl, ap, ◌∙◌, arith}
use Rattle.cl_model.specs.{declared.{model.SystemModel.SystemModel, task.RunnableDef.RunnableDef}, ByNumber.task_at, Validity.IsValid}
use Rattle.cl_runs.specs.{declared.job.{Job.Job, JobTable.JobTable}, SystemOf.system_of, TaskTiming.timing_at, Table.{job_at, table_jobs}}
use Rattle.cl_runs.proofs.ModelSystem.{count_is, range_count_is, system_sound}
use Rattle.cl_sched.specs.{declared.progress.Progress.Progress, Progress.HasComeTo, Inner.{TakingTime.TakeTime, Executing.IsInLists}, CoreProgress.IsLawfulAt}
use Rattle.cl_sched.proofs.LawfulTables.{places, take_time}

module _ (model : SystemModel) (table : JobTable) (i : ℕ) (lawful : IsLawfulAt (system_of model) (timing_at (system_of model) i).core table)
    (is : i < length model.tasks) where
  pub in_system : i < length (system_of model).tasks
  in_system = omega (arith, is, count_is model)

  -- the table has its jobs
  pub in_table : i < length table.jobs
  in_table = omega (arith, in_system, lawful.tasks)

  -- each takes time
  pub jobs_take_time : IsValid model → TakeTime (table_jobs table i)
  jobs_take_time valid = take_time (system_of model) (system_sound model valid) _ table lawful i in_system refl

  -- a job has a time for each runnable
  pub times_of_runnables : IsValid model → (k : ℕ) → k < length (table_jobs table i)
      → length (job_at (table_jobs table i) k).times ≡ length (task_at model i).runnables
  times_of_runnables valid k h = places (system_of model) (system_sound model valid) _ table lawful i in_system refl k h ∙ range_count_is model i is

  -- a task that has come to a runnable has come to one of the model's, and its job has a time for it
  pub in_lists : IsValid model → (runnables : List RunnableDef) (jobs : List Job) (done : ℕ) (progress : Progress)
      → runnables ≡ (task_at model i).runnables → jobs ≡ table_jobs table i → HasComeTo (table_jobs table i) done progress
      → IsInLists runnables jobs progress
  in_lists valid runnables jobs done progress are jobs_are (inl at) = λ there. (
    omega (arith, at.is_runnable, times_of_runnables valid progress.job at.in_table, ap length are),
    omega (arith, at.is_runnable, ap (λ (l : List Job). length (job_at l progress.job).times) jobs_are),
  )
  in_lists valid runnables jobs done progress are jobs_are (inr past) =
      λ there. absurd (omega (arith, there, past.past, ap length jobs_are))
