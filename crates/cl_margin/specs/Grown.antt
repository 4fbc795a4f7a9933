-- A model whose greatest execution times have grown, of all tasks or of one. Times are in ticks.
use Rattle.std.specs.Prelude.{ℕ, ◌==◌, if◌then◌else◌, length, map, sum_by}
use Rattle.std.specs.List.{range_with_len}
use Rattle.cl_model.specs.{declared.{model.SystemModel.SystemModel, task.{RunnableDef.RunnableDef, TaskDef.TaskDef}}, ByNumber.task_at}
use Rattle.cl_scale.specs.Scaled.{scaled_time, scaled_task}
use Rattle.cl_margin.specs.declared.whose.Whose.{Whose, TheVariants.{EveryTask, OneTask}}

-- the percentage of the greatest times of a task, where those of some tasks are at this one: those of all others are at
-- 100, where each is as it stands
abbrev pub percent_of : Whose → (percent task : ℕ) → ℕ
percent_of EveryTask percent task = percent
percent_of (OneTask one) percent task = if task == one then percent else 100

-- the task of a number at the percentage that is given for it
abbrev pub grown_task : SystemModel → (percents : ℕ → ℕ) → (task : ℕ) → TaskDef
grown_task model percents task = scaled_task (percents task) (task_at model task)

-- a model at the percentages that are given for its tasks
unfoldable pub grown_by : SystemModel → (percents : ℕ → ℕ) → SystemModel
grown_by model percents = record model { tasks = map (grown_task model percents) (range_with_len 0 (length model.tasks)) }

-- the model where the greatest times of some tasks are at a percentage
abbrev pub grown : SystemModel → Whose → (percent : ℕ) → SystemModel
grown model whose percent = grown_by model (percent_of whose percent)

-- the greatest time of a runnable at a percentage
abbrev pub grown_greatest : (percent : ℕ) → RunnableDef → ℕ
grown_greatest percent runnable = scaled_time percent runnable.least runnable.greatest

-- the greatest time of a task at a percentage
abbrev pub grown_time : SystemModel → (task percent : ℕ) → ℕ
grown_time model task percent = sum_by (grown_greatest percent) (task_at model task).runnables
