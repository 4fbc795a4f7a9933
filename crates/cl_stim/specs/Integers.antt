-- Signed numbers: how far they lie from 0.
use Rattle.std.specs.Prelude.{ℕ, ℤ, pos, ◌+ℤ◌, ◌≤ℤ◌}

-- a signed number that is so great or so small at most
abbrev pub IsIntegerWithin : (most : ℕ) → ℤ → Type 0
IsIntegerWithin most z = (pos 0 ≤ℤ (z +ℤ pos most)) × (z ≤ℤ pos most)
