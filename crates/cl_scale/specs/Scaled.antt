-- A model whose greatest execution times are scaled by a percentage. Times are in ticks.
use Rattle.std.specs.Prelude.{ℕ, ◌*◌, ◌/◌, max, map}
use Rattle.cl_model.specs.declared.{model.SystemModel.SystemModel, task.{RunnableDef.RunnableDef, TaskDef.TaskDef}}

-- a greatest time by so many percent, rounded down, but no less than the least time
abbrev pub scaled_time : (percent : ℕ) → (least greatest : ℕ) → ℕ
scaled_time percent least greatest = max least (greatest * percent / 100)

-- a runnable with its greatest time scaled
abbrev pub scaled_runnable : (percent : ℕ) → RunnableDef → RunnableDef
scaled_runnable percent runnable = record runnable { greatest = scaled_time percent runnable.least runnable.greatest }

-- a task with those of all its runnables
abbrev pub scaled_task : (percent : ℕ) → TaskDef → TaskDef
scaled_task percent task = record task { runnables = map (scaled_runnable percent) task.runnables }

-- a model with those of all its tasks
unfoldable pub scaled : SystemModel → (percent : ℕ) → SystemModel
scaled model percent = record model { tasks = map (scaled_task percent) model.tasks }
