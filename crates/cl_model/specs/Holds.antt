-- How long a whole runnable may hold its core once it has begun. Times are in ticks.
use Rattle.std.specs.Prelude.{ℕ, ◌-◌, max, cond, fold, List}
use Rattle.cl_model.specs.declared.task.{RunnableDef.RunnableDef, TaskDef.TaskDef}

-- the greatest of a list by a number of each, 0 where there is none
abbrev pub greatest_by : {X : Type 0} → (X → ℕ) → List X → ℕ
greatest_by number xs = fold (λ greatest x. max greatest (number x)) 0 xs

-- how long a runnable may that has begun: its greatest time without its first tick, where it is whole
abbrev pub runnable_hold : RunnableDef → ℕ
runnable_hold runnable = cond runnable.whole (runnable.greatest - 1) 0

-- how long a runnable of a task may
abbrev pub task_hold : TaskDef → ℕ
task_hold task = greatest_by runnable_hold task.runnables
