-- What is said of numbers that some jobs have and others may not: how many jobs, the greatest number, and between which
-- numbers all lie.
use Rattle.std.specs.Prelude.{◌≡◌, ℕ, zero, suc, ◌+◌, ℤ, ◌≤ℤ◌, ◌≤◌, ◌⊎◌, Option, Some, None}
use Rattle.cl_observe.specs.declared.values.{GreatestResponse.GreatestResponse, Spread.Spread}

-- so many of the numbers below one are of a kind
abbrev pub CountsBelow : (Is : ℕ → Type 0) → (n count : ℕ) → Type 0
CountsBelow Is zero count = count ≡ 0
CountsBelow Is (suc n) count = ((before : ℕ) × Is n × CountsBelow Is n before × (count ≡ before + 1)) ⊎ ((Is n → ⊥) × CountsBelow Is n count)

-- a response is a greatest one of those that jobs have, and its job the least that has it
pub record IsGreatestResponse (Has : (job : ℕ) → (response : ℤ) → Type 0) (shown : GreatestResponse) : Type 0 where
  pub has : Has shown.job shown.response
  pub greatest : (job : ℕ) (response : ℤ) → Has job response → response ≤ℤ shown.response
  pub least : (job : ℕ) → Has job shown.response → shown.job ≤ job

-- the greatest response, and none where no job has one
abbrev pub IsGreatestResponseOf : (Has : (job : ℕ) → (response : ℤ) → Type 0) → Option GreatestResponse → Type 0
IsGreatestResponseOf Has None = (job : ℕ) (response : ℤ) → Has job response → ⊥
IsGreatestResponseOf Has (Some shown) = IsGreatestResponse Has shown

-- the least and the greatest of the numbers that jobs have
pub record IsSpread (Has : (job : ℕ) → (number : ℤ) → Type 0) (spread : Spread) : Type 0 where
  pub at_least : (job : ℕ) × Has job spread.least
  pub at_greatest : (job : ℕ) × Has job spread.greatest
  pub above : (job : ℕ) (number : ℤ) → Has job number → spread.least ≤ℤ number
  pub below : (job : ℕ) (number : ℤ) → Has job number → number ≤ℤ spread.greatest

-- these two, and none where no job has a number
abbrev pub IsSpreadOf : (Has : (job : ℕ) → (number : ℤ) → Type 0) → Option Spread → Type 0
IsSpreadOf Has None = (job : ℕ) (number : ℤ) → Has job number → ⊥
IsSpreadOf Has (Some spread) = IsSpread Has spread
