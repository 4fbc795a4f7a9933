-- Common multiples of the periods of beats. Times are in ticks.
use Rattle.std.specs.Prelude.{ℕ, ◌<◌, ◌≤◌, List, length}
use Rattle.std.specs.Int.{◌∣◌}
use Rattle.cl_exact.specs.{declared.beat.Beat.Beat, Inner.Beats.beat_in}

-- the periods of the first beats divide it
abbrev pub IsMultipleOfFirst : List Beat → (count ticks : ℕ) → Type 0
IsMultipleOfFirst beats count ticks = (place : ℕ) → place < count → place < length beats → (beat_in beats place).period ∣ ticks

-- the least common multiple of the periods of the first beats
pub record IsLeastOfFirst (beats : List Beat) (count ticks : ℕ) : Type 0 where
  pub some : 1 ≤ ticks
  pub multiple : IsMultipleOfFirst beats count ticks
  pub least : (other : ℕ) → IsMultipleOfFirst beats count other → ticks ∣ other

-- and of all of them
abbrev pub IsLeastMultiple : List Beat → (ticks : ℕ) → Type 0
IsLeastMultiple beats ticks = IsLeastOfFirst beats (length beats) ticks
