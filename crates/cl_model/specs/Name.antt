-- The grammar of names.
use Rattle.std.specs.Prelude.{ℕ, Bool, List, length, IsTrue, nat_lt, nat_le, ◌==◌, ◌&&◌, ◌||◌}
use Rattle.std.specs.Char.{is_ascii_alphanumeric}
use Rattle.std.specs.List.{list_all}
use Rattle.cl_model.specs.declared.name.TheConstants.{LONGEST_NAME}

-- an ASCII letter, a digit, `_`, `.` or `-`
abbrev pub is_name_byte : ℕ → Bool
is_name_byte b = ((is_ascii_alphanumeric b || b == 95) || b == 46) || b == 45

-- 1 to 64 such bytes
abbrev pub is_name : List ℕ → Bool
is_name word = (nat_lt 0 (length word) && nat_le (length word) LONGEST_NAME) && list_all is_name_byte word

-- the word is of the name grammar
abbrev pub IsName : List ℕ → Type 0
IsName word = IsTrue (is_name word)
