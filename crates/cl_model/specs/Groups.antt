-- Chains of steps, and their groups.
use Rattle.std.specs.Prelude.{ℕ, ◌+◌, ◌-◌, ◌<◌, ◌≤◌, Bool, ◌==◌, ◌&&◌, nat_lt, if◌then◌else◌, List, [], ◌∷◌, length, map, slice_index_or, unwrap_or}
use Rattle.cl_model.specs.{declared.{model.SystemModel.SystemModel, task.TaskDef.TaskDef, chain.ChainDef.ChainDef, group.{Group.Group, Step.Step}}, Named.{index_of, runnable_names, all_runnables}, ByNumber.{task_at, chain_at}}

-- ---- steps

-- the task and the place of runnable n, counted over all tasks, of which the first has the number i
abbrev pub step_from : (i : ℕ) → List TaskDef → (n : ℕ) → Step
step_from i [] n = record { task = i; place = n }
step_from i (task ∷ tasks) n =
    if nat_lt n (length task.runnables) then record { task = i; place = n } else step_from (i + 1) tasks (n - length task.runnables)

-- the step that a chain names
abbrev pub step_named : SystemModel → List ℕ → Step
step_named model name = step_from 0 model.tasks (unwrap_or (index_of name (runnable_names (all_runnables model.tasks))) 0)

-- a step that is a runnable of a task
pub record IsStepOf (model : SystemModel) (step : Step) : Type 0 where
  pub known : step.task < length model.tasks
  pub place : step.place < length (task_at model step.task).runnables

-- what stands past the last step
unfoldable pub no_step : Step
no_step = record { task = 0; place = 0 }

-- the step at a place of a list
abbrev pub step_at : List Step → ℕ → Step
step_at steps k = slice_index_or steps k no_step

-- the steps of a chain
abbrev pub steps_of : SystemModel → ChainDef → List Step
steps_of model chain = map (step_named model) chain.runnables

-- ---- groups

-- what stands past the last group
unfoldable pub no_group : Group
no_group = record { task = 0; first = 0; last = 0 }

-- the group at a place of a list
abbrev pub group_at : List Group → ℕ → Group
group_at groups k = slice_index_or groups k no_group

-- the hop from a group to the next step is inner: both stand in one task, and the writer stands before the reader
abbrev pub is_inner : Group → Step → Bool
is_inner group step = (group.task == step.task) && nat_lt group.last step.place

-- a group of one step
abbrev pub group_of_step : Step → Group
group_of_step step = record { task = step.task; first = step.place; last = step.place }

-- the groups of the steps from a group so far on: each inner hop makes it longer, each other hop begins the next
abbrev pub groups_from : Group → List Step → List Group
groups_from group [] = group ∷ []
groups_from group (step ∷ steps) =
    if is_inner group step
    then groups_from (record { task = group.task; first = group.first; last = step.place }) steps
    else (group ∷ groups_from (group_of_step step) steps)

-- the groups of a list of steps: its maximal runs of steps joined by inner hops
abbrev pub groups : List Step → List Group
groups [] = []
groups (step ∷ steps) = groups_from (group_of_step step) steps

-- the groups of a chain
unfoldable pub groups_of : SystemModel → ChainDef → List Group
groups_of model chain = groups (steps_of model chain)

-- the groups of the chain of a number
abbrev pub groups_at : SystemModel → ℕ → List Group
groups_at model chain = groups_of model (chain_at model chain)

-- a group that stands in a task: the places of its first and last runnable are in order and in the task
pub record IsGroupOf (model : SystemModel) (group : Group) : Type 0 where
  pub known : group.task < length model.tasks
  pub ordered : group.first ≤ group.last
  pub within : group.last < length (task_at model group.task).runnables
