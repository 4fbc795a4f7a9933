-- What the values of a model file mean where nothing is refused.
use Rattle.std.specs.Prelude.{ℕ, pos, Bool, false, List, [], map, Option, Some, None, unwrap_or}
use Rattle.toml.specs.Data.{Data, string, integer, boolean, array, table, Members, no_members}
use Rattle.cl_model.specs.{declared.place.Key.Key, Reading.Checks.{meaning_of, members_of, value_at, found_or}}

-- the bytes of a string
abbrev pub text_in : Data → List ℕ
text_in (string word) = word
text_in _ = []

-- a whole number that isn't negative
abbrev pub number_in : Data → ℕ
number_in (integer (pos n)) = n
number_in _ = 0

-- true or false
abbrev pub boolean_of : Data → Bool
boolean_of (boolean b) = b
boolean_of _ = false

-- the members of an array
abbrev pub list_of : Data → List Data
list_of (array items) = members_of items
list_of _ = []

-- the members of a table
abbrev pub table_of : Data → Members
table_of (table ms) = ms
table_of _ = no_members

-- the string at a key
abbrev pub text_at : Key → Members → List ℕ
text_at key ms = found_or [] text_in (value_at key ms)

-- the number at a key, or this where the key is absent
abbrev pub number_or : ℕ → Key → Members → ℕ
number_or absent key ms = found_or absent number_in (value_at key ms)

-- the number at a key that is there
abbrev pub number_at : Key → Members → ℕ
number_at = number_or 0

-- the number at a key that may be absent
abbrev pub number_if : Key → Members → Option ℕ
number_if key ms = found_or None (λ d. Some (number_in d)) (value_at key ms)

-- whether true stands at a key
abbrev pub is_set : Key → Members → Bool
is_set key ms = found_or false boolean_of (value_at key ms)

-- what the word at a key stands for, by a list of words
abbrev pub word_if : {X : Type 0} → List (List ℕ × X) → Key → Members → Option X
word_if words key ms = found_or None (λ d. meaning_of words (text_in d)) (value_at key ms)

-- the same, where this stands for no word
abbrev pub word_at : {X : Type 0} → List (List ℕ × X) → X → Key → Members → X
word_at words other key ms = unwrap_or (word_if words key ms) other

-- the names in the array at a key, none where it is absent
abbrev pub names_at : Key → Members → List (List ℕ)
names_at key ms = found_or [] (λ d. map text_in (list_of d)) (value_at key ms)

-- what the tables in the array at a key mean, none where it is absent
abbrev pub tables_at : {X : Type 0} → (Members → X) → Key → Members → List X
tables_at meaning key ms = found_or [] (λ d. map (λ entry. meaning (table_of entry)) (list_of d)) (value_at key ms)
