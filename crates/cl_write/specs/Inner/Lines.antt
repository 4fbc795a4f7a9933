-- Lines of a document, each of a key and a value, or none where the value is left out.
use Rattle.std.specs.Prelude.{ℕ, Bool, ◌==◌, if◌then◌else◌, List, [], ◌∷◌, ◌++◌, Option, Some, None, codes, decimal, flat_map}
use Rattle.cl_model.specs.{declared.place.Key.Key, Place.key_text}

-- a word between quotes
unfoldable pub word_line : Key → List ℕ → List ℕ
word_line key word = key_text key ++ (codes " = \"" ++ (word ++ codes "\"\n"))

-- a number
unfoldable pub number_line : Key → ℕ → List ℕ
number_line key n = key_text key ++ (codes " = " ++ (decimal n ++ codes "\n"))

-- a number, where one is given
abbrev pub number_line_if : Key → Option ℕ → List ℕ
number_line_if key None = []
number_line_if key (Some n) = number_line key n

-- a number that isn't 0
abbrev pub line_unless_zero : Key → ℕ → List ℕ
line_unless_zero key n = if n == 0 then [] else number_line key n

-- `true`
unfoldable pub true_line : Key → List ℕ
true_line key = key_text key ++ codes " = true\n"

-- `true`, where it is
abbrev pub line_when_true : Key → Bool → List ℕ
line_when_true key b = if b then true_line key else []

-- a word behind another one, from the quote before its comma on
unfoldable pub next_word : List ℕ → List ℕ
next_word word = codes "\", \"" ++ word

-- words behind a first one
abbrev pub more_words : List (List ℕ) → List ℕ
more_words words = flat_map next_word words

-- an array of a word and others
unfoldable pub words_line : Key → List ℕ → List (List ℕ) → List ℕ
words_line key word words = key_text key ++ (codes " = [\"" ++ (word ++ (more_words words ++ codes "\"]\n")))

-- an array of words, if there is one
abbrev pub words_line_if : Key → List (List ℕ) → List ℕ
words_line_if key [] = []
words_line_if key (word ∷ words) = words_line key word words
