-- A task of a model, in a legal run of it.
use Rattle.std.specs.Prelude.{ℕ, Bool, Option, Some, None, if◌then◌else◌, ◌<◌, length}
use Rattle.cl_model.specs.{declared.model.SystemModel.SystemModel, ByNumber.task_at, Validity.IsValid}
use Rattle.cl_runs.specs.{Run.{Run, jobs_of}, SystemOf.system_of, Legal.IsLegal}
use Rattle.cl_draw.specs.declared.parts.Part.{Part}

pub record IsTaskRun (model : SystemModel) (run : Run) (task : ℕ) : Type 0 where
  pub is_task : task < length model.tasks
  pub valid : IsValid model
  pub legal : IsLegal (system_of model) run

-- a part is one of a job and a runnable of the task
pub record IsPartOf (model : SystemModel) (run : Run) (task : ℕ) (part : Part) : Type 0 where
  pub in_table : part.job < length (jobs_of run task)
  pub is_runnable : part.place < length (task_at model task).runnables

-- a value that passes a test
abbrev pub passing : {X : Type 0} → (X → Bool) → X → Option X
passing test value = if test value then Some value else None
