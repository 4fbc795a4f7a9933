-- Common multiples of two numbers. `IsGcd`, the greatest common divisor, is std's.
use Rattle.std.specs.Prelude.{ℕ}
use Rattle.std.specs.Int.{◌∣◌}

-- m is the least common multiple of a and b: both divide it, and it divides each number that both divide
pub record IsLcm (a b m : ℕ) : Type 0 where
  pub first : a ∣ m
  pub second : b ∣ m
  pub least : (n : ℕ) → a ∣ n → b ∣ n → m ∣ n
