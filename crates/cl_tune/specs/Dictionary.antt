-- Dictionary order on lists of numbers.
use Rattle.std.specs.Prelude.{◌≡◌, ℕ, ◌<◌, ◌⊎◌, List, [], ◌∷◌}

-- one list stands before another in dictionary order, or is the same
abbrev pub ComesNoLater : List ℕ → (other : List ℕ) → Type 0
ComesNoLater [] others = Unit {0}
ComesNoLater (x ∷ xs) [] = ⊥
ComesNoLater (x ∷ xs) (y ∷ ys) = (x < y) ⊎ ((x ≡ y) × ComesNoLater xs ys)
