-- Counts that only rise.
use Rattle.std.specs.Prelude.{◌≡◌, ◌≢◌, ℕ, ◌+◌, ◌-◌, ◌<◌, ◌≤◌, ◌^◌, min, List}

-- one more, up to the greatest u64
abbrev pub counted : ℕ → ℕ
counted n = min (n + 1) (2 ^ 64 - 1)

-- The count rose, or it stood at the greatest u64 already, where it stays.
abbrev pub Rose : ℕ → ℕ → Type 0
Rose before after = before < 2 ^ 64 - 1 → before < after

-- At this name the number hasn't fallen, and at every other it is as it was.
pub record RisesAlone (name : List ℕ) (before after : List ℕ → ℕ) : Type 0 where
  pub here : before name ≤ after name
  pub others : (other : List ℕ) → other ≢ name → after other ≡ before other
