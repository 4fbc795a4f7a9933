-- What a part of a chain is worth: its exact reaction where it has one, else the bound on its reaction. Times are in
-- ticks.
use Rattle.std.specs.Prelude.{◌≡◌, ◌⊎◌, ℕ, ◌-◌, List, take, drop}
use Rattle.cl_model.specs.declared.group.Group.{Group}
use Rattle.cl_runs.specs.TaskTiming.{System}
use Rattle.cl_bound.specs.Bounds.{bounds_of}
use Rattle.cl_exact.specs.ExactReactions.{IsExactReaction, HasNoExactReaction}

-- the items of a list from the one at place `first` to the one before place `next`
unfoldable pub part : {X : Type 0} → List X → (first next : ℕ) → List X
part items first next = take (next - first) (drop first items)

-- the bound on the reaction of all other groups
pub record IsBoundValue (system : System) (groups : List Group) (value : ℕ) : Type 0 where
  pub not_exact : HasNoExactReaction system groups
  pub value_is : value ≡ (bounds_of system groups).reaction

-- the value of groups that follow each other
abbrev pub IsValue : System → List Group → (value : ℕ) → Type 0
IsValue system groups value = IsExactReaction system groups value ⊎ IsBoundValue system groups value
