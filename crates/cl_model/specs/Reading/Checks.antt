-- Checks of the values of a model file.
-- Over the values of a TOML 1.1 document.
use Rattle.std.specs.Prelude.{ℕ, ℤ, pos, negsuc, Bool, true, false, ◌&&◌, not, if◌then◌else◌, nat_le, List, [], ◌∷◌, length, map, Option, Some, None, is_some}
use Rattle.std.specs.List.{list_any}
use Rattle.std.specs.Str.{bytes_eq}
use Rattle.toml.specs.Data.{Data, string, integer, boolean, array, table, Items, no_items, item, Members, no_members, member, get_member}
use Rattle.cl_model.specs.{declared.{place.{Key.Key, Place.Place}, refusal.{Code.TheVariants.{M4, M5, M6, M7, M8, M9, M10}, Refusal.Refusal}}, Name.is_name, Place.{key_text, at_key, at_spot}, Refusals.{refuse, unless, in_order, each_from}}

-- the checks of one value, at its place
abbrev pub Check : Type 0
Check = Place → Data → List Refusal

-- ---- values

-- M6 where it isn't a string, and then what is asked of the string
abbrev pub a_string : (Place → List ℕ → List Refusal) → Check
a_string asked place (string word) = asked place word
a_string asked place _ = refuse M6 place

-- a name
abbrev pub a_name : Check
a_name = a_string (λ place word. unless (is_name word) M7 place)

-- what a word stands for, by a list of words
abbrev pub meaning_of : {X : Type 0} → List (List ℕ × X) → List ℕ → Option X
meaning_of [] word = None
meaning_of (w ∷ words) word = if bytes_eq w.0 word then Some w.1 else meaning_of words word

-- one of the words listed
abbrev pub a_word : {X : Type 0} → List (List ℕ × X) → Check
a_word words = a_string (λ place word. unless (is_some (meaning_of words word)) M9 place)

-- the whole number is from low to high
abbrev pub is_within : (low high : ℕ) → ℤ → Bool
is_within low high (pos n) = nat_le low n && nat_le n high
is_within low high (negsuc n) = false

-- M6 where it isn't a whole number, M8 where that is out of its range
abbrev pub a_number : (low high : ℕ) → Check
a_number low high place (integer z) = unless (is_within low high z) M8 place
a_number low high place _ = refuse M6 place

-- M6 where it is neither true nor false
abbrev pub a_boolean : Check
a_boolean place (boolean b) = []
a_boolean place _ = refuse M6 place

-- the members of an array as a list
abbrev pub members_of : Items → List Data
members_of no_items = []
members_of (item d ds) = d ∷ members_of ds

-- M6 where it isn't an array, M10 where that has more members than the limit, and then each member at its place
abbrev pub an_array : (limit : ℕ) → (ℕ → Place → Place) → Check → Check
an_array limit at_member check place (array items) =
    in_order (unless (nat_le (length (members_of items)) limit) M10 place
    ∷ each_from 0 (λ n. check (at_member n place)) (members_of items)
    ∷ [])
an_array limit at_member check place _ = refuse M6 place

-- at most so many names
abbrev pub names : (limit : ℕ) → Check
names limit = an_array limit at_spot a_name

-- M6 where it isn't a table, and then what is asked of the table
abbrev pub a_table : (Place → Members → List Refusal) → Check
a_table asked place (table ms) = asked place ms
a_table asked place _ = refuse M6 place

-- ---- tables

-- a key that a table may have, whether it must be there, and what is asked of its value
pub record Field : Type 0 where
  pub key : Key
  pub must : Bool
  pub check : Check

-- a key that must be there, and one that may be absent
abbrev pub required : Key → Check → Field
required key check = record { key = key; must = true; check = check }

abbrev pub optional : Key → Check → Field
optional key check = record { key = key; must = false; check = check }

-- the value at a key
abbrev pub value_at : Key → Members → Option Data
value_at key ms = get_member (key_text key) ms

-- this where there is no value, and else what the function gives of the value
abbrev pub found_or : {X : Type 0} → X → (Data → X) → Option Data → X
found_or absent given None = absent
found_or absent given (Some d) = given d

-- M5 where a required key is absent, and else the checks of its value
abbrev pub field_checks : Place → Members → Field → List Refusal
field_checks place ms field =
    let there = at_key field.key place in
    found_or (unless (not field.must) M5 there) (field.check there) (value_at field.key ms)

-- the keys of the fields
abbrev pub keys_of : List Field → List Key
keys_of fields = map (λ field. field.key) fields

-- the table has no other key
abbrev pub has_only : List Key → Members → Bool
has_only keys no_members = true
has_only keys (member k d ms) = list_any (λ key. bytes_eq (key_text key) k) keys && has_only keys ms

-- M4 where the table has another key, and then its fields in order
abbrev pub fields_checks : List Field → Place → Members → List Refusal
fields_checks fields place ms =
    in_order (unless (has_only (keys_of fields) ms) M4 place ∷ map (field_checks place ms) fields)

-- a table with these fields
abbrev pub a_table_of : List Field → Check
a_table_of fields = a_table (fields_checks fields)
