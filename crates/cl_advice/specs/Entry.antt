-- The entry of a section, and the runnable, that a place lies in. Numbers count from 1.
use Rattle.std.specs.Prelude.{ℕ, ◌+◌, if◌then◌else◌, List, [], ◌++◌, Option, Some, None, codes, decimal}
use Rattle.std.specs.Option.{option_and_then}
use Rattle.toml.specs.Data.{Data, string, Members, get}
use Rattle.cl_text.specs.Line.{line}
use Rattle.cl_model.specs.declared.place.Key.TheVariants as key
use Rattle.cl_model.specs.{declared.place.Place.Place, Name.is_name, Place.{part_text, key_text}}
use Rattle.cl_advice.specs.Sites.{entry_in, runnable_around}

-- a name, and `-` in the place of what is none
abbrev pub name_or_dash : Option Data → List ℕ
name_or_dash (Some (string word)) = if is_name word then word else codes "-"
name_or_dash _ = codes "-"

-- the name of a table
abbrev pub table_name : Option Data → List ℕ
table_name d = name_or_dash (option_and_then (get (key_text key.Name)) d)

-- what follows a title: the name of a table and its number
abbrev pub numbered_words : Option Data → ℕ → List ℕ
numbered_words d n = line (codes " " ++ table_name d ++ codes " " ++ decimal (n + 1))

-- a title with them, where there is a number
abbrev pub numbered_line : List ℕ → Option Data → Option ℕ → List ℕ
numbered_line title d None = []
numbered_line title d (Some n) = title ++ numbered_words d n

-- the line of the entry of a section, and the line of the runnable
abbrev pub entry_line : Members → Place → List ℕ
entry_line ms place = numbered_line (codes "entry " ++ part_text place.part) (entry_in ms place) place.item

abbrev pub runnable_line : Members → Place → List ℕ
runnable_line ms place = numbered_line (codes "runnable") (runnable_around ms place) place.sub
