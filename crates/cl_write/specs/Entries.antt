-- Tables of a document by their entries: each a key, and its value where one is written.
-- Source: TOML 1.1, as the crate `toml` defines its tables.
use Rattle.std.specs.Prelude.{ℕ, pos, Bool, true, ◌==◌, if◌then◌else◌, List, [], ◌∷◌, map, Option, Some, None}
use Rattle.std.specs.Ordering.{nat_cmp, match_ordering}
use Rattle.std.specs.Cmp.Lexicographic.{slice_cmp}
use Rattle.toml.specs.{Data.{Data, string, integer, boolean, array, table, Members, no_members, member}, View.items_of}
use Rattle.cl_model.specs.{declared.place.Key.Key, Place.key_text}

-- a key, and its value where one is written
abbrev pub Entry : Type 0
Entry = Key × Option Data

-- the members with this value at this key; keys ascend
unfoldable pub with_member : List ℕ → Data → Members → Members
with_member k d no_members = member k d no_members
with_member k d (member l e ms) =
    match_ordering (slice_cmp nat_cmp k l) (member k d (member l e ms)) (member l d ms) (member l e (with_member k d ms))

-- the members with an entry, with several entries
abbrev pub with_entry : Key → Option Data → Members → Members
with_entry key None ms = ms
with_entry key (Some d) ms = with_member (key_text key) d ms

abbrev pub with_entries : List Entry → Members → Members
with_entries [] ms = ms
with_entries (entry ∷ entries) ms = with_entries entries (with_entry entry.0 entry.1 ms)

-- the table of these entries
abbrev pub members_with : List Entry → Members
members_with entries = with_entries entries no_members

-- ---- values

-- a number
abbrev pub number : ℕ → Data
number n = integer (pos n)

-- a number, where one is given
abbrev pub number_data_if : Option ℕ → Option Data
number_data_if None = None
number_data_if (Some n) = Some (number n)

-- a number that isn't 0
abbrev pub unless_zero : ℕ → Option Data
unless_zero n = if n == 0 then None else Some (number n)

-- `true`, where it is
abbrev pub when_true : Bool → Option Data
when_true b = if b then Some (boolean true) else None

-- the array of what is written of the items of a list that isn't empty
abbrev pub unless_empty : {X : Type 0} → (X → Data) → List X → Option Data
unless_empty written [] = None
unless_empty written (x ∷ xs) = Some (array (items_of (map written (x ∷ xs))))

-- the array of these names, if there is one
abbrev pub names_data : List (List ℕ) → Option Data
names_data words = unless_empty string words

-- the array of the tables of these entries, if there is an item
abbrev pub tables : {X : Type 0} → (X → List Entry) → List X → Option Data
tables entries xs = unless_empty (λ x. table (members_with (entries x))) xs
