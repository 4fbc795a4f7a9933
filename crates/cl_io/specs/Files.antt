-- The files that a shelf in memory holds.
use Rattle.std.specs.Prelude.{ℕ, List, Option}
use Rattle.std.specs.BTreeMap.{get_by_text}
use Rattle.std.specs.Option.{option_map}
use Rattle.cl_io.specs.declared.files.Files.{Files}

-- the file of a name, where there is one
abbrev pub file_of : Files → List ℕ → Option (List ℕ)
file_of files name = option_map (λ content. content.items) (get_by_text files.entries name)
