-- What stands at a place of a document.
use Rattle.std.specs.Prelude.{ℕ, if◌then◌else◌, Option, Some, None, is_some}
use Rattle.std.specs.Option.{option_and_then}
use Rattle.toml.specs.Data.{Data, Members, get_member, get, at, as_table}
use Rattle.cl_model.specs.{declared.place.{Part.Part, Key.Key, Place.Place}, Place.{part_text, key_text}}
use Rattle.cl_model.specs.declared.place.Key.TheVariants as key

-- the section of a part
abbrev pub section_in : Members → Part → Option Data
section_in ms part = get_member (part_text part) ms

-- the entry of a section that a place lies in
abbrev pub entry_in : Members → Place → Option Data
entry_in ms place = option_and_then (λ n. option_and_then (at n) (section_in ms place.part)) place.item

-- the runnables of the entry
abbrev pub runnables_around : Members → Place → Option Data
runnables_around ms place = option_and_then (get (key_text key.Runnable)) (entry_in ms place)

-- the runnable of a task that a place lies in
abbrev pub runnable_around : Members → Place → Option Data
runnable_around ms place = option_and_then (λ n. option_and_then (at n) (runnables_around ms place)) place.sub

-- the table that a place lies in: a runnable, an entry, or the whole document
abbrev pub table_around : Members → Place → Option Members
table_around ms place =
    if is_some place.sub then option_and_then as_table (runnable_around ms place)
    else if is_some place.item then option_and_then as_table (entry_in ms place)
    else Some ms

-- what stands at a place without a key: a runnable, an entry or a section
abbrev pub value_around : Members → Place → Option Data
value_around ms place =
    if is_some place.sub then runnable_around ms place
    else if is_some place.item then entry_in ms place
    else section_in ms place.part

-- what stands at a key of the table
abbrev pub value_of_key : Members → Place → Key → Option Data
value_of_key ms place key = option_and_then (get_member (key_text key)) (table_around ms place)

-- the member of an array, where one is asked for
abbrev pub member_if : Option ℕ → Option Data → Option Data
member_if None value = value
member_if (Some n) value = option_and_then (at n) value

-- what stands there, with a key or without one
abbrev pub value_with : Members → Place → Option Key → Option Data
value_with ms place None = value_around ms place
value_with ms place (Some key) = member_if place.spot (value_of_key ms place key)

-- what stands at a place
abbrev pub value_in : Members → Place → Option Data
value_in ms place = value_with ms place place.key
