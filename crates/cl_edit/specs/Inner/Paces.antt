-- Changes of when tasks run, and what the checks see of each task after one. Times are in ticks.
use Rattle.std.specs.Prelude.{◌≡◌, ℕ, ◌<◌, ◌⊎◌, Bool, ◌==◌, nat_lt, nat_le, if◌then◌else◌, List, [], ◌∷◌, Option, unwrap_or, length, map, slice_index_or, All}
use Rattle.std.specs.List.{list_any}
use Rattle.cl_model.specs.{declared.{changes.TaskPriority.TaskPriority, model.SystemModel.SystemModel, task.TaskDef.TaskDef, refusal.{Code.TheVariants.{M32, M33}, Refusal.Refusal}, stimulus.StimulusKind.StimulusKind}, Changes.{stimulus_at, with_kind, with_deadline, with_priorities}}
use Rattle.cl_model.specs.{Changes.with_place, ByNumber.{task_at, core_at, core_of, stimulus_of, deadline_of}, Named.same_name, Refusals.{when, in_order, each}, Timing.{least_distance, greatest_jitter}, ValidTasks.task_key}
use Rattle.cl_model.specs.declared.place.Key.TheVariants as key
use Rattle.cl_edit.specs.{declared.pace.{Retiming.Retiming, Pace.Pace}, Changing.IsPriorityOf}
use Rattle.cl_edit.specs.declared.pace.Retiming.TheVariants as change

-- ---- changes

-- the model after a change
abbrev pub with_retiming : SystemModel → Retiming → SystemModel
with_retiming model (change.Deadline task deadline) = with_deadline model task deadline
with_retiming model (change.Kind stimulus kind) = with_kind model stimulus (λ _. kind)
with_retiming model (change.Priorities set after) = with_priorities model set.now
with_retiming model (change.Move task core priority) = with_place model task (core_at model core).name priority

-- the priority of each task
abbrev pub priorities_of : SystemModel → List ℕ
priorities_of model = map (λ (task : TaskDef). task.priority) model.tasks

-- what a change names is there, and the priorities after it are those of the model after it
abbrev pub IsRetimingOf : SystemModel → Retiming → Type 0
IsRetimingOf model (change.Deadline task deadline) = task < length model.tasks
IsRetimingOf model (change.Kind stimulus kind) = stimulus < length model.stimuli
IsRetimingOf model (change.Priorities set after) = All (IsPriorityOf model) set.now × (after.now ≡ priorities_of (with_priorities model set.now))
IsRetimingOf model (change.Move task core priority) = (task < length model.tasks) × (core < length model.cores)

-- whether task k names stimulus s
abbrev pub is_on : SystemModel → (s k : ℕ) → Bool
is_on model s k = same_name (task_at model k).stimulus (stimulus_at model s).name

-- whether a change is of task k, of its stimulus, or of nothing of it
abbrev pub is_touched : SystemModel → Retiming → (k : ℕ) → Bool
is_touched model (change.Deadline task deadline) k = k == task
is_touched model (change.Kind stimulus kind) k = is_on model stimulus k
is_touched model (change.Priorities set after) k = list_any (λ (it : TaskPriority). it.task == k) set.now
is_touched model (change.Move task core priority) k = k == task

-- ---- what task k is after a change

abbrev pub priority_after : SystemModel → Retiming → (k : ℕ) → ℕ
priority_after model (change.Deadline task deadline) k = (task_at model k).priority
priority_after model (change.Kind stimulus kind) k = (task_at model k).priority
priority_after model (change.Priorities set after) k = slice_index_or after.now k 0
priority_after model (change.Move task core priority) k = if k == task then priority else (task_at model k).priority

abbrev pub kind_after : SystemModel → Retiming → (k : ℕ) → StimulusKind
kind_after model (change.Deadline task deadline) k = stimulus_of model k
kind_after model (change.Kind stimulus kind) k = if is_on model stimulus k then kind else stimulus_of model k
kind_after model (change.Priorities set after) k = stimulus_of model k
kind_after model (change.Move task core priority) k = stimulus_of model k

abbrev pub given_after : SystemModel → Retiming → (k : ℕ) → Option ℕ
given_after model (change.Deadline task deadline) k = if k == task then deadline else (task_at model k).deadline
given_after model (change.Kind stimulus kind) k = (task_at model k).deadline
given_after model (change.Priorities set after) k = (task_at model k).deadline
given_after model (change.Move task core priority) k = (task_at model k).deadline

abbrev pub deadline_after : SystemModel → Retiming → (k : ℕ) → ℕ
deadline_after model change k = unwrap_or (given_after model change k) (least_distance (kind_after model change k))

abbrev pub core_after : SystemModel → Retiming → (k : ℕ) → ℕ
core_after model (change.Deadline task deadline) k = core_of model k
core_after model (change.Kind stimulus kind) k = core_of model k
core_after model (change.Priorities set after) k = core_of model k
core_after model (change.Move task core priority) k = if k == task then core else core_of model k

-- ---- paces

-- what the checks see of task k after a change
abbrev pub pace_after : SystemModel → Retiming → (k : ℕ) → Pace
pace_after model change k = record { priority = priority_after model change k; deadline = deadline_after model change k; kind = kind_after model change k }

-- that of task k
abbrev pub pace_of : SystemModel → (k : ℕ) → Pace
pace_of model k = record { priority = (task_at model k).priority; deadline = deadline_of model k; kind = stimulus_of model k }

-- ---- the others of a core

-- the tasks of a core of a model are the others of the core of a task after a change
abbrev pub HasOthers : SystemModel → Retiming → (task core : ℕ) → Type 0
HasOthers model change task core =
    ((k : ℕ) → k < length model.tasks → core_of model k ≡ core → core_after model change k ≡ core)
    × ((k : ℕ) → k < length model.tasks → core_after model change k ≡ core → (k ≡ task) ⊎ (core_of model k ≡ core))

-- ---- refusals

-- M32 and M33 for task k
abbrev pub limit_checks : Pace → (k : ℕ) → List Refusal
limit_checks pace k =
    in_order (when (nat_lt (least_distance pace.kind) pace.deadline) M32 (task_key k key.Deadline)
    ∷ when (nat_le pace.deadline (greatest_jitter pace.kind)) M33 (task_key k key.Stimulus)
    ∷ [])

-- the same, where it names stimulus s
abbrev pub limits_on : SystemModel → Retiming → (s k : ℕ) → List Refusal
limits_on model change s k = if is_on model s k then limit_checks (pace_after model change k) k else []

-- M32 and M33 for each task that names it
abbrev pub all_limits_on : SystemModel → Retiming → (s : ℕ) → List Refusal
all_limits_on model change s = each (λ k task. limits_on model change s k) model.tasks
