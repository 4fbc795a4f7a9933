-- A change of a model by numbers, and which change an edit is. Times are in ticks.
use Rattle.std.specs.Prelude.{◌≡◌, ℕ, ◌<◌, ◌≤◌, false, List, [], ◌∷◌, length, map, Option, Some, None, unwrap_or, All}
use Rattle.cl_model.specs.{declared.{changes.TaskPriority.TaskPriority, chain.RequirementDef.RequirementDef, limits.TheConstants.{MOST_PRIORITY, MOST_REQUIRED}, model.SystemModel.SystemModel, stimulus.StimulusKind.StimulusKind}, ByNumber.{task_at, requirement_at, stimulus_number}}
use Rattle.cl_model.specs.{ByNumber.{task_named, chain_named, requirement_named}, Changes.{stimulus_at, with_range, with_whole, with_kind, with_period, with_offset, with_jitter, with_distances, with_burst, with_deadline, with_priorities, with_place, with_access, with_new_task}}
use Rattle.cl_model.specs.{Changes.{without_task, with_new_chain, without_chain, with_requirement, with_new_requirement, without_requirement}, Groups.{step_named, IsStepOf}, Named.{has_name, requirement_names}, Ranges.{IsTaskInRange, IsChainInRange}, Validity.IsValid}
use Rattle.cl_edit.specs.declared.{change.Change.Change, edit.{NamedPriority.NamedPriority, Edit.{Edit, TheVariants.{Range, Whole, Period, Offset, Jitter, Distances, Burst, Deadline, Swap, Priorities, Move, Kind, AddTask, DropTask, AddChain, DropChain, Requirement, DropRequirement}}}}
use Rattle.cl_edit.specs.declared.edit.Edit.TheVariants.{Report, Tighten, Verify}
use Rattle.cl_edit.specs.declared.change.Change.TheVariants as changes

-- ---- changes

-- the model after a change
abbrev pub with_change : SystemModel → Change → SystemModel
with_change model (changes.Range step least greatest) = with_range model step least greatest
with_change model (changes.Whole step whole) = with_whole model step whole
with_change model (changes.Stimulus stimulus kind) = with_kind model stimulus (λ _. kind)
with_change model (changes.Deadline task deadline) = with_deadline model task deadline
with_change model (changes.Priorities priorities) = with_priorities model priorities
with_change model (changes.Move task core priority) = with_place model task core priority
with_change model (changes.Access task access) = with_access model task access
with_change model (changes.AddTask task) = with_new_task model task
with_change model (changes.DropTask task) = without_task model task
with_change model (changes.AddChain chain) = with_new_chain model chain
with_change model (changes.DropChain chain) = without_chain model chain
with_change model (changes.Requirement r to) = with_requirement model r to
with_change model (changes.AddRequirement requirement) = with_new_requirement model requirement
with_change model (changes.DropRequirement r) = without_requirement model r
with_change model changes.Nothing = model

-- a task of the model gets a priority
pub record IsPriorityOf (model : SystemModel) (it : TaskPriority) : Type 0 where
  pub task : it.task < length model.tasks
  pub priority : it.priority ≤ MOST_PRIORITY

-- what a change names is there, what it adds is in range, and a requirement that is added has a name that is new
abbrev pub IsChangeOf : SystemModel → Change → Type 0
IsChangeOf model (changes.Range step least greatest) = IsStepOf model step
IsChangeOf model (changes.Whole step whole) = IsStepOf model step
IsChangeOf model (changes.Stimulus stimulus kind) = stimulus < length model.stimuli
IsChangeOf model (changes.Deadline task deadline) = task < length model.tasks
IsChangeOf model (changes.Priorities priorities) = All (IsPriorityOf model) priorities
IsChangeOf model (changes.Move task core priority) = task < length model.tasks
IsChangeOf model (changes.Access task access) = task < length model.tasks
IsChangeOf model (changes.AddTask task) = IsTaskInRange task
IsChangeOf model (changes.DropTask task) = task < length model.tasks
IsChangeOf model (changes.AddChain chain) = IsChainInRange chain
IsChangeOf model (changes.DropChain chain) = chain < length model.chains
IsChangeOf model (changes.Requirement r to) = (r < length model.requirements) × (to.name ≡ (requirement_at model r).name) × (to.most ≤ MOST_REQUIRED)
IsChangeOf model (changes.AddRequirement requirement) = (has_name requirement.name (requirement_names model) ≡ false) × (requirement.most ≤ MOST_REQUIRED)
IsChangeOf model (changes.DropRequirement r) = r < length model.requirements
IsChangeOf model changes.Nothing = Unit {0}

-- a change may be made of a model: it is one of the model, and leaves a valid one
pub record MayBeMade (model : SystemModel) (change : Change) : Type 0 where
  pub of_model : IsChangeOf model change
  pub valid : IsValid (with_change model change)

-- ---- edits

-- the number of the task, the chain of that name: 0 where there is none
abbrev pub task_number : SystemModel → List ℕ → ℕ
task_number model name = unwrap_or (task_named model name) 0

abbrev pub chain_number : SystemModel → List ℕ → ℕ
chain_number model name = unwrap_or (chain_named model name) 0

-- the change of the kind of the stimulus of that name
abbrev pub kind_change : SystemModel → (stimulus : List ℕ) → (StimulusKind → StimulusKind) → Change
kind_change model stimulus set = changes.Stimulus (stimulus_number model stimulus) (set (stimulus_at model (stimulus_number model stimulus)).kind)

-- the priority that the task of a name gets, by its number
abbrev pub by_number : SystemModel → NamedPriority → TaskPriority
by_number model p = record { task = task_number model p.task; priority = p.priority }

-- the exchange of the priorities of two tasks: each gets that of the other one
abbrev pub exchanged : SystemModel → (one other : ℕ) → List TaskPriority
exchanged model one other =
    record { task = one; priority = (task_at model other).priority } ∷ record { task = other; priority = (task_at model one).priority } ∷ []

-- the requirement takes the place of that of its name, of this number, or stands behind the others where there is none
abbrev pub requirement_change : Option ℕ → RequirementDef → Change
requirement_change (Some r) requirement = changes.Requirement r requirement
requirement_change None requirement = changes.AddRequirement requirement

-- the change that an edit is, where the names that it looks up are there
unfoldable pub change_of : SystemModel → Edit → Change
change_of model (Range runnable least greatest) = changes.Range (step_named model runnable) least greatest
change_of model (Whole runnable whole) = changes.Whole (step_named model runnable) whole
change_of model (Period stimulus period) = kind_change model stimulus (with_period period)
change_of model (Offset stimulus offset) = kind_change model stimulus (with_offset offset)
change_of model (Jitter stimulus jitter) = kind_change model stimulus (with_jitter jitter)
change_of model (Distances stimulus least greatest) = kind_change model stimulus (with_distances least greatest)
change_of model (Burst stimulus period count distance) = kind_change model stimulus (with_burst period count distance)
change_of model (Deadline task deadline) = changes.Deadline (task_number model task) deadline
change_of model (Swap one other) = changes.Priorities (exchanged model (task_number model one) (task_number model other))
change_of model (Priorities priorities) = changes.Priorities (map (by_number model) priorities)
change_of model (Move task core priority) = changes.Move (task_number model task) core priority
change_of model (Kind task access) = changes.Access (task_number model task) access
change_of model (AddTask task) = changes.AddTask task
change_of model (DropTask task) = changes.DropTask (task_number model task)
change_of model (AddChain chain) = changes.AddChain chain
change_of model (DropChain chain) = changes.DropChain (chain_number model chain)
change_of model (Requirement requirement) = requirement_change (requirement_named model requirement.name) requirement
change_of model (DropRequirement requirement) = changes.DropRequirement (unwrap_or (requirement_named model requirement) 0)
change_of model Report = changes.Nothing
change_of model Tighten = changes.Nothing
change_of model Verify = changes.Nothing
