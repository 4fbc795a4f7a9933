-- The checks of tasks over what the tasks of their cores take of them.
use Rattle.std.specs.Prelude.{ℕ, Bool, nat_lt, ◌&&◌, ◌==◌, List, [], ◌∷◌, length, Some}
use Rattle.std.specs.List.{list_any}
use Rattle.cl_model.specs.declared.place.Key.TheVariants as key
use Rattle.cl_model.specs.{declared.{refusal.{Code.TheVariants.M31, Refusal.Refusal}, stimulus.StimulusKind.StimulusKind, task.TaskDef.TaskDef}, Named.is_some_and, Refusals.{when, in_order}, ValidTasks.{task_key, late_check, release_check, room_check, empty_check, spans_too_many}}
use Rattle.cl_valid.specs.declared.shares.Share.{Share}

-- M31 over shares
abbrev pub share_priority_check : List Share → ℕ → TaskDef → List Refusal
share_priority_check others i task = when (list_any (λ other. other.priority == task.priority) others) M31 (task_key i key.Priority)

-- M31 to M35 over shares, where the stimulus is known
abbrev pub share_checks : List Share → StimulusKind → ℕ → TaskDef → List Refusal
share_checks others kind i task =
    in_order (share_priority_check others i task
    ∷ late_check (Some kind) i task
    ∷ release_check (Some kind) i task
    ∷ room_check (length others) i
    ∷ empty_check i task
    ∷ [])

-- whether a deadline spans too many least distances of a task that has a higher priority
abbrev pub outpaces : ℕ → ℕ → Share → Bool
outpaces priority deadline other = nat_lt priority other.priority && is_some_and other.kind (spans_too_many deadline)
