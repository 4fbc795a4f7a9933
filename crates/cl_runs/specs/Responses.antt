-- Jobs that finish within a response of their arrival, in legal runs. Times are in ticks.
use Rattle.std.specs.Prelude.{ℕ, ◌+◌, ◌<◌, ◌≤◌, length}
use Rattle.cl_runs.specs.{TaskTiming.{System, timing_at}, Table.job_at, Run.{Run, jobs_of}, Legal.IsLegal, Moments.JobFinishes}

-- each job of a task that arrives `response` or more before the end of a run finishes within `response` of its arrival
pub record FinishesWithin (system : System) (run : Run) (task response : ℕ) : Type 0 where
  pub each : (job : ℕ) → job < length (jobs_of run task) → (job_at (jobs_of run task) job).arrival + response ≤ run.table.ticks
      → (finish : ℕ) × JobFinishes system run task job finish × (finish ≤ (job_at (jobs_of run task) job).arrival + response)

-- in every legal run of the system, of any length, each job of a task finishes within the response
abbrev pub AlwaysFinishesWithin : System → (task response : ℕ) → Type 0
AlwaysFinishesWithin system task response = (run : Run) → IsLegal system run → FinishesWithin system run task response

-- a task is timely: its jobs always finish within a response that its deadline allows
pub record IsTimely (system : System) (task response : ℕ) : Type 0 where
  pub is_task : task < length system.tasks
  pub by_deadline : response ≤ (timing_at system task).deadline
  pub always : AlwaysFinishesWithin system task response
