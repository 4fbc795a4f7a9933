-- The steps of all runnables of a model, in order, and the look-up of a step by its name in the table that is built of
-- them.
use Rattle.std.specs.Prelude.{◌≡◌, ℕ, ◌+◌, ◌≤◌, List, [], ◌∷◌, ◌++◌, length, map, slice_index_or, unwrap_or}
use Rattle.std.specs.List.{range_with_len, remove_range}
use Rattle.cl_model.specs.{declared.{group.Step.Step, groups.StepTable.StepTable, task.TaskDef.TaskDef}, Groups.no_step, Named.{index_of, runnable_names, all_runnables}, TaskNumbers.step_without}

-- the steps of the runnables of one task, which are so many
abbrev pub steps_in : (task count : ℕ) → List Step
steps_in task count = map (λ place. record { task = task; place = place }) (range_with_len 0 count)

-- the steps of the runnables of tasks, of which the first has the number i
abbrev pub steps_from : (i : ℕ) → List TaskDef → List Step
steps_from i [] = []
steps_from i (task ∷ tasks) = steps_in i (length task.runnables) ++ steps_from (i + 1) tasks

-- the step of that name in a table
abbrev pub step_in : StepTable → List ℕ → Step
step_in table name = slice_index_or table.steps.items (unwrap_or (index_of name table.names) 0) no_step

-- the table is that of the tasks of a model
pub record AreStepsOf (tasks : List TaskDef) (table : StepTable) : Type 0 where
  pub names : table.names ≡ runnable_names (all_runnables tasks)
  pub steps : table.steps.items ≡ steps_from 0 tasks

-- the table with the runnables of a task of that number behind the others
pub record StepsAdded (number : ℕ) (task : TaskDef) (old new : StepTable) : Type 0 where
  pub names : new.names ≡ old.names ++ runnable_names task.runnables
  pub steps : new.steps.items ≡ old.steps.items ++ steps_in number (length task.runnables)

-- the table has the runnables from number first up to number last
pub record HasSteps (table : StepTable) (first last : ℕ) : Type 0 where
  pub ordered : first ≤ last
  pub names : last ≤ length table.names
  pub steps : last ≤ length table.steps.items

-- the table without them, which are all runnables of task t
pub record StepsDropped (t first last : ℕ) (old new : StepTable) : Type 0 where
  pub names : new.names ≡ remove_range old.names first last
  pub steps : new.steps.items ≡ map (step_without t) (remove_range old.steps.items first last)
