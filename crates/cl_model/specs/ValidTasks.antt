-- The checks of the tasks of a model.
use Rattle.std.specs.Prelude.{ℕ, ◌+◌, ◌*◌, Bool, ◌&&◌, ◌==◌, nat_lt, nat_le, List, [], ◌∷◌, ◌++◌, length, take, Option, is_some}
use Rattle.std.specs.List.{list_any}
use Rattle.cl_model.specs.declared.{limits.TheConstants.{MOST_TASKS_OF_CORE, MOST_RUNNABLES_OF_MODEL, MOST_DISTANCES}, place.{Key.Key, Place.Place}, refusal.{Code.{Code, TheVariants.{M29, M30, M31, M32, M33, M34, M35, M36, M37, M38, M39, M40, M41, M42}}, Refusal.Refusal}}
use Rattle.cl_model.specs.{declared.{stimulus.StimulusKind.StimulusKind, task.{RunnableDef.RunnableDef, TaskDef.TaskDef}, model.SystemModel.SystemModel}, Named.{has_name, is_some_and, core_names, label_names, kind_named, tasks_on, all_runnables, labels_written}, Place.{entry_of, at_key}}
use Rattle.cl_model.specs.{Place.{at_sub, at_spot}, Refusals.{when, unless, in_order, each}, Timing.{least_distance, greatest_jitter, deadline_under}, ValidNames.repeats}
use Rattle.cl_model.specs.declared.place.Part.TheVariants as part
use Rattle.cl_model.specs.declared.place.Key.TheVariants as key

-- ---- a task and what it names

-- a key of task i
abbrev pub task_key : ℕ → Key → Place
task_key i key = at_key key (entry_of part.Task i)

-- M29: its core is known
abbrev pub core_check : List (List ℕ) → ℕ → TaskDef → List Refusal
core_check cores i task = unless (has_name task.core cores) M29 (task_key i key.Core)

-- M30: its stimulus is known
abbrev pub stimulus_check : Option StimulusKind → ℕ → List Refusal
stimulus_check kind i = unless (is_some kind) M30 (task_key i key.Stimulus)

-- M31: no earlier task of its core has its priority
abbrev pub priority_check : List TaskDef → ℕ → TaskDef → List Refusal
priority_check earlier i task = when (list_any (λ other. other.priority == task.priority) earlier) M31 (task_key i key.Priority)

-- M32: the deadline doesn't exceed the least distance
abbrev pub late_check : Option StimulusKind → ℕ → TaskDef → List Refusal
late_check kind i task = when (is_some_and kind (λ kind. nat_lt (least_distance kind) (deadline_under kind task))) M32 (task_key i key.Deadline)

-- M33: a job is released before its deadline
abbrev pub release_check : Option StimulusKind → ℕ → TaskDef → List Refusal
release_check kind i task = when (is_some_and kind (λ kind. nat_le (deadline_under kind task) (greatest_jitter kind))) M33 (task_key i key.Stimulus)

-- M34: its core isn't full before it
abbrev pub room_check : (earlier i : ℕ) → List Refusal
room_check earlier i = when (earlier == MOST_TASKS_OF_CORE) M34 (task_key i key.Core)

-- M35: it has a runnable
abbrev pub empty_check : ℕ → TaskDef → List Refusal
empty_check i task = when (length task.runnables == 0) M35 (entry_of part.Task i)

-- M29 to M35, for task i
unfoldable pub naming_checks : SystemModel → ℕ → TaskDef → List Refusal
naming_checks model i task =
    let kind = kind_named model task.stimulus in
    let earlier = tasks_on task.core (take i model.tasks) in
    in_order (core_check (core_names model) i task
    ∷ stimulus_check kind i
    ∷ priority_check earlier i task
    ∷ late_check kind i task
    ∷ release_check kind i task
    ∷ room_check (length earlier) i
    ∷ empty_check i task
    ∷ [])

-- ---- the runnables of a task

-- label k of the list is known
abbrev pub label_check : Code → Place → List (List ℕ) → ℕ → List ℕ → List Refusal
label_check code place known k label = unless (has_name label known) code (at_spot k place)

-- label k of the list isn't written yet
abbrev pub writer_check : Place → List (List ℕ) → ℕ → List ℕ → List Refusal
writer_check place written k label = when (has_name label written) M40 (at_spot k place)

-- M36: the least time doesn't exceed the greatest
abbrev pub times_check : Place → RunnableDef → List Refusal
times_check place runnable = when (nat_lt runnable.greatest runnable.least) M36 (at_key key.Greatest place)

-- M37: each label that is read is known
abbrev pub reads_check : List (List ℕ) → Place → RunnableDef → List Refusal
reads_check known place runnable = each (label_check M37 (at_key key.Reads place) known) runnable.reads

-- M38: each label that is written is known
abbrev pub writes_check : List (List ℕ) → Place → RunnableDef → List Refusal
writes_check known place runnable = each (label_check M38 (at_key key.Writes place) known) runnable.writes

-- M39: no label stands twice in a list
abbrev pub twice_check : Place → List (List ℕ) → List Refusal
twice_check place labels = repeats M39 (λ k. at_spot k place) [] labels

-- M40: no label is written by an earlier runnable
abbrev pub contest_check : List (List ℕ) → Place → RunnableDef → List Refusal
contest_check written place runnable = each (writer_check (at_key key.Writes place) written) runnable.writes

-- M36 to M40, for the runnable at a place: these labels are known, and these are written by earlier runnables
unfoldable pub runnable_checks : List (List ℕ) → List (List ℕ) → Place → RunnableDef → List Refusal
runnable_checks known written place runnable =
    in_order (times_check place runnable
    ∷ reads_check known place runnable
    ∷ writes_check known place runnable
    ∷ twice_check (at_key key.Reads place) runnable.reads
    ∷ twice_check (at_key key.Writes place) runnable.writes
    ∷ contest_check written place runnable
    ∷ [])

-- the checks of runnable p of a task
abbrev pub body_check : List (List ℕ) → List (List ℕ) → Place → TaskDef → ℕ → RunnableDef → List Refusal
body_check known written place task p runnable =
    runnable_checks known (written ++ labels_written (take p task.runnables)) (at_sub p place) runnable

-- the checks of each runnable of a task
abbrev pub body_checks : List (List ℕ) → List (List ℕ) → Place → TaskDef → List Refusal
body_checks known written place task = each (body_check known written place task) task.runnables

-- ---- all tasks

-- M41: up to task i there aren't too many runnables
abbrev pub count_check : SystemModel → ℕ → List Refusal
count_check model i = when (nat_lt MOST_RUNNABLES_OF_MODEL (length (all_runnables (take (i + 1) model.tasks)))) M41 (entry_of part.Task i)

-- M29 to M41, for task i
unfoldable pub task_check : SystemModel → ℕ → TaskDef → List Refusal
task_check model i task =
    in_order (naming_checks model i task
    ∷ body_checks (label_names model) (labels_written (all_runnables (take i model.tasks))) (entry_of part.Task i) task
    ∷ count_check model i
    ∷ [])

-- M29 to M41, for each task
abbrev pub task_checks : SystemModel → List Refusal
task_checks model = each (task_check model) model.tasks

-- whether a deadline, with the jitter of a task of higher priority, spans too many least distances of that task
abbrev pub spans_too_many : (deadline : ℕ) → StimulusKind → Bool
spans_too_many deadline above = nat_lt (MOST_DISTANCES * least_distance above) (deadline + greatest_jitter above)

-- whether that holds of a task and another one, which has a higher priority
abbrev pub is_outpaced_by : SystemModel → TaskDef → TaskDef → Bool
is_outpaced_by model task other =
    nat_lt task.priority other.priority
    && is_some_and (kind_named model task.stimulus) (λ kind. is_some_and (kind_named model other.stimulus) (spans_too_many (deadline_under kind task)))

-- M42, for task i, over the tasks of its core
abbrev pub deadline_check : SystemModel → ℕ → TaskDef → List Refusal
deadline_check model i task =
    when (list_any (is_outpaced_by model task) (tasks_on task.core model.tasks)) M42 (task_key i key.Deadline)

-- M42, for each task
abbrev pub deadline_checks : SystemModel → List Refusal
deadline_checks model = each (deadline_check model) model.tasks
