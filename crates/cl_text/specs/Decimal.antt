-- The grammar of decimals: digits that write a number in base ten, without a leading zero.
use Rattle.std.specs.Prelude.{◌≡◌, ◌≢◌, ℕ, ◌+◌, ◌-◌, ◌*◌, ◌^◌, List, [], ◌∷◌, length, slice_index, All}
use Rattle.std.specs.Char.{IsAsciiDigit}

-- the number that digits write in base ten: each digit ('0' is 48) times the power of its place
abbrev pub number_of : List ℕ → ℕ
number_of [] = 0
number_of (digit ∷ digits) = (digit - 48) * 10 ^ length digits + number_of digits

-- the word writes n: one digit or more, the first of them '0' only where it is the one digit
pub record IsDecimal (word : List ℕ) (n : ℕ) : Type 0 where
  pub not_empty : word ≢ []
  pub digits : All IsAsciiDigit word
  pub no_leading_zero : slice_index word 0 ≡ 48 → length word ≡ 1
  pub value : number_of word ≡ n
