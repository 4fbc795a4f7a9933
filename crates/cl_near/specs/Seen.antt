-- What is seen of tasks: each is so in some legal run. Times are in ticks.
use Rattle.std.specs.Prelude.{◌≡◌, ℕ, ◌+◌, ◌<◌, ◌≤◌, length}
use Rattle.cl_model.specs.declared.model.SystemModel.{SystemModel}
use Rattle.cl_runs.specs.{TaskTiming.timing_at, SystemOf.system_of, Table.job_at, Run.{Run, jobs_of}, Legal.IsLegal, Moments.JobFinishes}
use Rattle.cl_near.specs.declared.task_seen.SeenOfTask.{SeenOfTask, TheVariants.{Missed, Response}}

-- when a job of a run is to have finished
abbrev pub time_due : SystemModel → Run → (task job : ℕ) → ℕ
time_due model run task job = (job_at (jobs_of run task) job).arrival + (timing_at (system_of model) task).deadline

-- in some legal run a job of a task hasn't finished by its deadline, and the run lasts until then
pub record MissesDeadline (model : SystemModel) (task : ℕ) : Type 0 where
  pub run : Run
  pub legal : IsLegal (system_of model) run
  pub job : ℕ
  pub in_table : job < length (jobs_of run task)
  pub lasts : time_due model run task job ≤ run.table.ticks
  pub unfinished : (finish : ℕ) → JobFinishes (system_of model) run task job finish → time_due model run task job < finish

-- in some legal run a job of a task finishes so many ticks after its arrival
pub record TakesSoLong (model : SystemModel) (task ticks : ℕ) : Type 0 where
  pub run : Run
  pub legal : IsLegal (system_of model) run
  pub job : ℕ
  pub finishes : JobFinishes (system_of model) run task job ((job_at (jobs_of run task) job).arrival + ticks)

-- what is seen of a task is so
pub record IsSeenOfTask (model : SystemModel) (task : ℕ) (seen : SeenOfTask) : Type 0 where
  pub missed : seen ≡ Missed → MissesDeadline model task
  pub response : (ticks : ℕ) → seen ≡ Response ticks → TakesSoLong model task ticks
