-- What is kept for each name, as a function of the name's bytes.
use Rattle.std.specs.Prelude.{◌≡◌, ◌≢◌, ℕ, List}

-- It has become this at one name, and is as it was at every other.
pub record ChangesAlone {X : Type 0} (name : List ℕ) (value : X) (before after : List ℕ → X) : Type 0 where
  pub here : after name ≡ value
  pub others : (other : List ℕ) → other ≢ name → after other ≡ before other

-- It is as it was at every name.
abbrev pub SameAtEach : {X : Type 0} → (before after : List ℕ → X) → Type 0
SameAtEach before after = (name : List ℕ) → after name ≡ before name
