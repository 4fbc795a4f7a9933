-- The steps that were counted while the tasks and the chains of a new model were gone over.
use Rattle.std.specs.Prelude.{ℕ, ◌+◌, ◌*◌, ◌<◌, ◌≤◌, ◌⊎◌, List, length, All}
use Rattle.std.specs.List.Sorted.{IsStrictlyIncreasing}
use Rattle.cl_model.specs.declared.model.SystemModel.{SystemModel}
use Rattle.cl_incr.specs.Changed.{IsChangedTask, IsChangedChain}

-- Up to `each` steps were counted for each of some different numbers below `count`, of which a fact holds.
pub record AsksBelow (IsChanged : ℕ → Type 0) (each count steps_before steps_after : ℕ) : Type 0 where
  pub numbers : List ℕ
  pub different : IsStrictlyIncreasing numbers
  pub below : All (λ number. number < count) numbers
  pub changed : All IsChanged numbers
  pub few : steps_after ≤ steps_before + each * length numbers

-- the steps for the first tasks of the new model: one at most for each with a changed question
abbrev pub AsksTasks : (old new : SystemModel) → (count steps_before steps_after : ℕ) → Type 0
AsksTasks old new = AsksBelow (IsChangedTask old new) 1

-- the steps for its first chains: two at most for each with a changed question
abbrev pub AsksChains : (old new : SystemModel) → (count steps_before steps_after : ℕ) → Type 0
AsksChains old new = AsksBelow (IsChangedChain old new) 2

-- the steps for one task or chain: none, or up to `each` where a fact holds of it
abbrev pub AsksOne : (IsChanged : Type 0) → (each steps_before steps_after : ℕ) → Type 0
AsksOne IsChanged each steps_before steps_after =
    (steps_after ≤ steps_before) ⊎ (IsChanged × (steps_after ≤ steps_before + each))
