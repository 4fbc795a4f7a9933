-- Where lines and words end.
use Rattle.std.specs.Prelude.{ℕ, Bool, ◌==◌, List, [], ◌∷◌, ◌++◌, Option, position, take_while}
use Rattle.std.specs.Int.{is_in_range}

-- the place of the first byte 0x0A, which ends a line
abbrev pub line_end : List ℕ → Option ℕ
line_end text = position (λ byte. byte == 0x0A) text

-- a byte of a word: 0x21 to 0x7E, an ASCII character that is neither a blank nor a control
abbrev pub is_graphic : ℕ → Bool
is_graphic byte = is_in_range 0x21 0x7E byte

-- the longest run of word bytes that a text begins with
abbrev pub first_word : List ℕ → List ℕ
first_word text = take_while is_graphic text

-- one line of these words, with its end
abbrev pub line : List ℕ → List ℕ
line words = words ++ 0x0A ∷ []
