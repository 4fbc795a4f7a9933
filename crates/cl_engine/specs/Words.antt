-- Numbers that the words of a command write.
use Rattle.std.specs.Prelude.{ℕ, List, [], ◌∷◌, Option, Some, None, ◌&&◌, nat_le, decimal, if◌then◌else◌}
use Rattle.std.specs.Str.{bytes_eq}
use Rattle.cl_text.specs.Decimal.{number_of}
use Rattle.cl_engine.specs.declared.words.Bounds.{Bounds}

-- the number within the bounds that a word writes in decimal
abbrev pub number_within : Bounds → (word : List ℕ) → Option ℕ
number_within bounds word =
    let number = number_of word in
    if bytes_eq word (decimal number) && nat_le number bounds.most && nat_le bounds.least number then Some number else None

-- both numbers, where there are both
abbrev pub both_numbers : (one other : Option ℕ) → Option (ℕ × ℕ)
both_numbers (Some one) (Some other) = Some (one, other)
both_numbers _ _ = None

-- the two numbers within these bounds that the words write, of which there are two
abbrev pub two_numbers : (one other : Bounds) → List (List ℕ) → Option (ℕ × ℕ)
two_numbers one other (first ∷ second ∷ []) = both_numbers (number_within one first) (number_within other second)
two_numbers one other words = None
