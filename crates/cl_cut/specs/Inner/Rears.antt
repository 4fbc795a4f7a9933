-- The best cuts of the rear parts of a chain, from one group to the end each. Times are in ticks.
use Rattle.std.specs.Prelude.{◌≡◌, ℕ, ◌+◌, ◌-◌, ◌<◌, ◌≤◌, nat_lt, if◌then◌else◌, All, List, [], ◌∷◌, length, slice_index, slice_index_or}
use Rattle.cl_model.specs.{declared.{limits.TheConstants.MOST_STEPS, group.Group.Group, model.SystemModel.SystemModel}, Groups.IsGroupOf}
use Rattle.cl_runs.specs.{TaskTiming.System, SystemOf.system_of}
use Rattle.cl_bound.specs.Answers.{answers_of, NoneIsLate}
use Rattle.cl_cut.specs.{declared.rears.Rear.Rear, Values.{part, IsValue}, Cuts.IsBestCutFrom}

-- groups of a model that can be cut: no more than a chain has, of its tasks, and none of these late
pub record AreSettledGroups (model : SystemModel) (groups : List Group) : Type 0 where
  pub few : length groups ≤ MOST_STEPS
  pub of_tasks : All (IsGroupOf model) groups
  pub not_late : NoneIsLate (answers_of (system_of model)) groups

-- stands for a rear part that isn't known yet
unfoldable pub no_rear : Rear
no_rear = record { cost = 0; pieces = [] }

-- the rear part that begins with a group, where the last rear part of `count` groups stands first
abbrev pub rear_at : List Rear → (count first : ℕ) → Rear
rear_at rears count first = slice_index_or rears (count - 1 - first) no_rear

-- the best cuts of the last rear parts, from the last one on
pub record AreRears (system : System) (groups : List Group) (rears : List Rear) : Type 0 where
  pub few : length rears ≤ length groups
  pub each : (first : ℕ) → first < length groups → length groups ≤ first + length rears
      → IsBestCutFrom system groups first (rear_at rears (length groups) first).pieces (rear_at rears (length groups) first).cost

-- the values of the pieces that begin with a group, from the shortest on
pub record AreValuesFrom (system : System) (groups : List Group) (first : ℕ) (values : List ℕ) : Type 0 where
  pub one_a_piece : first + length values ≡ length groups
  pub each : (k : ℕ) → k < length values → IsValue system (part groups first (first + 1 + k)) (slice_index values k)

-- the value of each piece is 1 tick or more
abbrev pub ArePositive : System → List Group → Type 0
ArePositive system groups = (first next value : ℕ) → first < next → next ≤ length groups
    → IsValue system (part groups first next) value → 1 ≤ value

-- numbers from 1 up
abbrev pub AreSome : List ℕ → Type 0
AreSome values = (k : ℕ) → k < length values → 1 ≤ slice_index values k

abbrev pub CostSome : List Rear → Type 0
CostSome rears = (k : ℕ) → k < length rears → 1 ≤ (slice_index_or rears k no_rear).cost

-- the list of first groups of a cut whose first piece has so many groups beside its first
abbrev pub pieces_behind : (rears : List Rear) → (first size : ℕ) → List ℕ
pieces_behind rears first size =
    first ∷ (if nat_lt size (length rears) then (slice_index_or rears (length rears - 1 - size) no_rear).pieces else [])
