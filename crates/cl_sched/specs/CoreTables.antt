-- Job tables that some cores alone can run.
use Rattle.std.specs.Prelude.{◌≡◌, ℕ, ◌<◌, length}
use Rattle.cl_runs.specs.{TaskTiming.{System, timing_at}, declared.job.JobTable.JobTable, Table.{job_at, table_jobs}}

-- each job of a table has one time per runnable of its task
pub record HaveTimes (system : System) (table : JobTable) : Type 0 where
  pub each : (task job : ℕ) → task < length system.tasks → job < length (table_jobs table task)
      → length (job_at (table_jobs table task) job).times ≡ length (timing_at system task).ranges
