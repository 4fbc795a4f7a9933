-- The checks of a new task by the tasks that a model has, and by the labels that are its own.
use Rattle.std.specs.Prelude.{◌≡◌, ℕ, ◌+◌, Bool, true, ◌&&◌, nat_lt, List, [], ◌∷◌, ◌++◌, length, sum_by, Option}
use Rattle.std.specs.List.{flat_map}
use Rattle.cl_model.specs.{declared.{limits.TheConstants.MOST_RUNNABLES_OF_MODEL, model.SystemModel.SystemModel, refusal.{Code.TheVariants.M41, Refusal.Refusal}, stimulus.StimulusKind.StimulusKind, task.{RunnableDef.RunnableDef, TaskDef.TaskDef}}, Named.{same_name, has_name, is_some_and}}
use Rattle.cl_model.specs.{Named.{core_names, label_names, tasks_on, all_runnables, labels_written}, Place.entry_of, Refusals.{when, in_order, each}, Timing.deadline_under, ValidTasks.{core_check, stimulus_check, priority_check, late_check, release_check, room_check, empty_check}}
use Rattle.cl_model.specs.{ValidTasks.{body_checks, spans_too_many, is_outpaced_by, deadline_check}, Changes.with_new_task}
use Rattle.cl_model.specs.declared.place.Part.TheVariants as part
use Rattle.cl_edit.specs.FewListChecks.{new_task_name_check, new_runnables_check, below_new_check}

-- ---- M29 to M41

-- M29 to M35 for a task of number i on one of these cores, beside others, where its stimulus is of this kind
abbrev pub added_naming_checks : (cores : List (List ℕ)) → (others : List TaskDef) → Option StimulusKind → ℕ → TaskDef → List Refusal
added_naming_checks cores others kind i task =
    in_order (core_check cores i task
    ∷ stimulus_check kind i
    ∷ priority_check (tasks_on task.core others) i task
    ∷ late_check kind i task
    ∷ release_check kind i task
    ∷ room_check (length (tasks_on task.core others)) i
    ∷ empty_check i task
    ∷ [])

-- M41 for a task of number i beside others
abbrev pub added_count_check : List TaskDef → ℕ → TaskDef → List Refusal
added_count_check others i task =
    when (nat_lt MOST_RUNNABLES_OF_MODEL (sum_by (λ (other : TaskDef). length other.runnables) others + length task.runnables)) M41 (entry_of part.Task i)

-- M29 to M41 for a new task
abbrev pub added_checks : SystemModel → Option StimulusKind → ℕ → TaskDef → List Refusal
added_checks model kind i task =
    in_order (added_naming_checks (core_names model) model.tasks kind i task
    ∷ body_checks (label_names model) (labels_written (all_runnables model.tasks)) (entry_of part.Task i) task
    ∷ added_count_check model.tasks i task
    ∷ [])

-- ---- M42

-- whether a task is on the core of another, below it, and its deadline spans too many distances of that one
abbrev pub outpaced_by : TaskDef → Option StimulusKind → TaskDef → Option StimulusKind → Bool
outpaced_by task kind other other_kind =
    (same_name task.core other.core && nat_lt task.priority other.priority)
    && is_some_and kind (λ kind. is_some_and other_kind (spans_too_many (deadline_under kind task)))

-- the same, by the model
abbrev pub is_task_below : SystemModel → TaskDef → TaskDef → Bool
is_task_below model task other = same_name task.core other.core && is_outpaced_by model task other

-- ---- all together

-- M23, M24 and M29 to M42 for a new task beside these
abbrev pub all_checks : SystemModel → List TaskDef → Option StimulusKind → TaskDef → List Refusal
all_checks model others kind task =
    in_order ((new_task_name_check model task ++ new_runnables_check model task)
    ∷ added_checks model kind (length others) task
    ∷ (each (below_new_check model task) others ++ deadline_check (with_new_task model task) (length others) task)
    ∷ [])

-- ---- labels

-- the labels that runnables read and write
abbrev pub labels_of : List RunnableDef → List (List ℕ)
labels_of runnables = flat_map (λ (runnable : RunnableDef). runnable.reads ++ runnable.writes) runnables

-- two lists have the same names
abbrev pub AreAlike : (one other : List (List ℕ)) → Type 0
AreAlike one other = (name : List ℕ) → has_name name one ≡ has_name name other

-- of the names in one list, two others have the same
abbrev pub AgreeOn : (own one other : List (List ℕ)) → Type 0
AgreeOn own one other = (name : List ℕ) → has_name name own ≡ true → has_name name one ≡ has_name name other
