-- The values of a table at the keys that it may have.
use Rattle.std.specs.Prelude.{◌≡◌, ℕ, Bool, true, ◌&&◌, not, List, [], ◌∷◌, length, map, replicate, take, Option, Some, None}
use Rattle.std.specs.Borrow.{Bor}
use Rattle.std.specs.List.{list_any}
use Rattle.std.specs.Option.{option_map, option_or}
use Rattle.std.specs.Str.{bytes_eq}
use Rattle.toml.specs.{Data.{Data, Members}, View.{view, table_view}, declared.value.Value.Value}
use Rattle.cl_model.specs.{declared.place.Key.Key, Place.key_text, Reading.Checks.value_at}
use Rattle.cl_read.specs.declared.keys.Fields.{Fields}

-- whether the word is that of a key
abbrev pub is_word : List ℕ → Key → Bool
is_word word key = bytes_eq (key_text key) word

-- no two of the keys have the same word
abbrev pub are_apart : List Key → Bool
are_apart [] = true
are_apart (key ∷ keys) = not (list_any (is_word (key_text key)) keys) && are_apart keys

-- the data of a value that may be there
abbrev pub data_of : Option (Bor Value) → Option Data
data_of value = option_map (λ value. view value.now) value

-- what came first
abbrev pub first_of : Option Data → Data → Option Data
first_of earlier d = option_or earlier (Some d)

-- no value is there
abbrev pub AreNone : List (Option (Bor Value)) → Type 0
AreNone values = values ≡ replicate (length values) None

-- the first of the values are those at the keys
abbrev pub AreValuesAt : List Key → Members → List (Option (Bor Value)) → Type 0
AreValuesAt keys ms values = take (length keys) (map data_of values) ≡ map (λ key. value_at key ms) keys

-- the values that are kept are those of the table
abbrev pub AreFieldsFound : Fields → Type 0
AreFieldsFound fields = AreValuesAt fields.keys.now (table_view fields.table.now) fields.values
