-- The few checks that an edit of a valid model needs: the refusals of the changed model are exactly these, in this order.
-- Each stands at the place that it has in the changed model. Times are in ticks.
use Rattle.std.specs.Prelude.{ℕ, Bool, ◌&&◌, ◌||◌, nat_lt, if◌then◌else◌, List, [], ◌∷◌, length, take, Option, Some}
use Rattle.std.specs.List.{list_any}
use Rattle.cl_model.specs.{declared.{changes.TaskPriority.TaskPriority, group.Step.Step, model.SystemModel.SystemModel, refusal.{Code.TheVariants.{M27, M28, M36, M42, M47}, Refusal.Refusal}, stimulus.StimulusKind.StimulusKind, task.TaskDef.TaskDef}, ByNumber.task_at, Changes.stimulus_at}
use Rattle.cl_model.specs.{Changes.{with_kind, with_priorities, with_place}, Named.{same_name, core_names, kind_named, tasks_on}, Place.{entry_of, at_key, at_sub}, Refusals.{when, in_order, each}, ValidNames.{has_late_offset, has_no_distance, has_long_burst}, ValidTasks.task_key}
use Rattle.cl_model.specs.ValidTasks.{core_check, priority_check, late_check, release_check, room_check, is_outpaced_by, deadline_check, deadline_checks}
use Rattle.cl_model.specs.declared.place.Key.TheVariants as key
use Rattle.cl_model.specs.declared.place.Part.TheVariants as part

-- other execution times of a runnable: the least doesn't exceed the greatest
abbrev pub range_refusals : Step → (least greatest : ℕ) → List Refusal
range_refusals step least greatest = when (nat_lt greatest least) M36 (at_key key.Greatest (at_sub step.place (entry_of part.Task step.task)))

-- another deadline of task i: it doesn't exceed the least distance, it lies past the jitter, and it doesn't span too many
-- distances of a task above
abbrev pub deadline_refusals : SystemModel → (i : ℕ) → Option ℕ → List Refusal
deadline_refusals model i deadline =
    let task : TaskDef = record (task_at model i) { deadline = deadline } in
    in_order (late_check (kind_named model task.stimulus) i task ∷ release_check (kind_named model task.stimulus) i task ∷ deadline_check model i task ∷ [])

-- the numbers of another kind of stimulus s: the offset lies below the period, the least distance doesn't exceed the greatest, and a burst
-- fits its period
abbrev pub number_refusals : (s : ℕ) → StimulusKind → List Refusal
number_refusals s kind =
    let place = entry_of part.Stimulus s in
    in_order (when (has_late_offset kind) M27 (at_key key.Offset place)
    ∷ when (has_no_distance kind) M28 (at_key key.Greatest place)
    ∷ when (has_long_burst kind) M47 (at_key key.Distance place)
    ∷ [])

-- whether a task names stimulus s
abbrev pub is_on_stimulus : SystemModel → (s : ℕ) → TaskDef → Bool
is_on_stimulus model s task = same_name task.stimulus (stimulus_at model s).name

-- for each task that names it, the deadline doesn't exceed the least distance and lies past the jitter
abbrev pub limit_refusals : SystemModel → (s : ℕ) → StimulusKind → List Refusal
limit_refusals model s kind =
    each (λ i task. if is_on_stimulus model s task then in_order (late_check (Some kind) i task ∷ release_check (Some kind) i task ∷ []) else []) model.tasks

-- no deadline spans too many distances of a task above, where one of the two names it
abbrev pub kind_deadline_refusals : SystemModel → (s : ℕ) → StimulusKind → List Refusal
kind_deadline_refusals model s kind =
    let changed = with_kind model s (λ _. kind) in
    each (λ i task. when (list_any (λ other. (is_on_stimulus model s task || is_on_stimulus model s other) && is_outpaced_by changed task other) (tasks_on task.core model.tasks)) M42 (task_key i key.Deadline)) model.tasks

-- another kind of stimulus s
abbrev pub kind_refusals : SystemModel → (s : ℕ) → StimulusKind → List Refusal
kind_refusals model s kind = in_order (number_refusals s kind ∷ limit_refusals model s kind ∷ kind_deadline_refusals model s kind ∷ [])

-- other priorities of tasks: no task has the priority of an earlier one of its core, and no deadline spans too many
-- distances of a task above
abbrev pub priority_refusals : SystemModel → List TaskPriority → List Refusal
priority_refusals model priorities =
    let changed = with_priorities model priorities in
    in_order (each (λ i task. priority_check (tasks_on task.core (take i changed.tasks)) i task) changed.tasks ∷ deadline_checks changed ∷ [])

-- whether a task may stand where it does: its core is known, no earlier task of the core has its priority, and the core
-- isn't full before it
abbrev pub place_refusals : SystemModel → (i : ℕ) → TaskDef → List Refusal
place_refusals model i task =
    let earlier = tasks_on task.core (take i model.tasks) in
    in_order (core_check (core_names model) i task ∷ priority_check earlier i task ∷ room_check (length earlier) i ∷ [])

-- another core and priority of task i
abbrev pub move_refusals : SystemModel → (i : ℕ) → (core : List ℕ) → (priority : ℕ) → List Refusal
move_refusals model i core priority =
    let changed = with_place model i core priority in
    in_order (each (place_refusals changed) changed.tasks ∷ deadline_checks changed ∷ [])
