-- A model whose tasks have other priorities.
use Rattle.std.specs.Prelude.{◌≡◌, ℕ, ◌<◌, length, map}
use Rattle.std.specs.List.{range_with_len}
use Rattle.cl_model.specs.{declared.{model.SystemModel.SystemModel, task.TaskDef.TaskDef}, ByNumber.task_at}
use Rattle.cl_runs.specs.TaskTiming.{System, timing_at}

-- a task of a model, with another priority
abbrev pub task_with : SystemModel → (priority : ℕ → ℕ) → (task : ℕ) → TaskDef
task_with model priority task = record (task_at model task) { priority = priority task }

-- a model with other priorities, given by the numbers of the tasks
unfoldable pub with_all_priorities : SystemModel → (priority : ℕ → ℕ) → SystemModel
with_all_priorities model priority = record model { tasks = map (task_with model priority) (range_with_len 0 (length model.tasks)) }

-- a system is another with these priorities
pub record HasPriorities (system other : System) (priority : ℕ → ℕ) : Type 0 where
  pub cores : other.cores ≡ system.cores
  pub as_many : length other.tasks ≡ length system.tasks
  pub each : (task : ℕ) → task < length system.tasks → timing_at other task ≡ record (timing_at system task) { priority = priority task }
