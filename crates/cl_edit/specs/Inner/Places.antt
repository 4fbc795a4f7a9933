-- Where tasks stand after one of them is moved: the first task that M31 or M34 refuses.
use Rattle.std.specs.Prelude.{◌≡◌, ℕ, ◌<◌, Bool, true, ◌==◌, nat_lt, if◌then◌else◌, List, [], Option, Some, None, length, take}
use Rattle.cl_model.specs.{declared.{limits.TheConstants.MOST_TASKS_OF_CORE, model.SystemModel.SystemModel, refusal.{Code.TheVariants.{M31, M34}, Refusal.Refusal}}, ByNumber.task_at, Named.tasks_on, Refusals.{refuse, each}, ValidTasks.task_key}
use Rattle.cl_model.specs.declared.place.Key.TheVariants as key
use Rattle.cl_edit.specs.{FewChecks.place_refusals, Inner.Pairs.IsAtMost}

-- M29, M31 and M34 for each task
abbrev pub place_checks : SystemModel → List Refusal
place_checks model = each (place_refusals model) model.tasks

-- whether M34 refuses task k
abbrev pub is_beyond : SystemModel → (k : ℕ) → Bool
is_beyond model k = length (tasks_on (task_at model k).core (take k model.tasks)) == MOST_TASKS_OF_CORE

-- a number, if there is one, is that of a task that M34 refuses
abbrev pub IsBeyond : SystemModel → Option ℕ → Type 0
IsBeyond model None = Unit {0}
IsBeyond model (Some k) = (k < length model.tasks) × (is_beyond model k ≡ true)

-- the number is that of the first task that M34 refuses, if there is one
pub record IsFirstBeyond (model : SystemModel) (first : Option ℕ) : Type 0 where
  pub beyond : IsBeyond model first
  pub least : (k : ℕ) → k < length model.tasks → is_beyond model k ≡ true → IsAtMost first k

-- M31 for the first task that clashes, or M34 for the first that finds its core full, whichever stands first: M31 where both are one
abbrev pub first_checks : (clash beyond : Option ℕ) → List Refusal
first_checks None None = []
first_checks None (Some k) = refuse M34 (task_key k key.Core)
first_checks (Some k) None = refuse M31 (task_key k key.Priority)
first_checks (Some j) (Some k) = if nat_lt k j then refuse M34 (task_key k key.Core) else refuse M31 (task_key j key.Priority)
