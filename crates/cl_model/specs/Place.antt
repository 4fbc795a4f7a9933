-- Places of a model file, and how one prints.
use Rattle.std.specs.Prelude.{ℕ, List, [], ◌++◌, Option, Some, None, codes}
use Rattle.std.specs.Fmt.{decimal}
use Rattle.cl_model.specs.declared.place.{Part.Part, Key.Key, Place.Place}
use Rattle.cl_model.specs.declared.place.Part.TheVariants as part
use Rattle.cl_model.specs.declared.place.Key.TheVariants as key

-- a part as a whole
abbrev pub section_place : Part → Place
section_place p = record { part = p; item = None; sub = None; key = None; spot = None }

-- the top level of the file
abbrev pub top : Place
top = section_place part.Top

-- an entry of a section
abbrev pub at_item : ℕ → Place → Place
at_item n place = record place { item = Some n }

-- entry n of a section
abbrev pub entry_of : Part → ℕ → Place
entry_of section n = at_item n (section_place section)

-- a runnable of a task
abbrev pub at_sub : ℕ → Place → Place
at_sub n place = record place { sub = Some n; key = None }

-- a key of a table
abbrev pub at_key : Key → Place → Place
at_key k place = record place { key = Some k }

-- a member of the array under a key
abbrev pub at_spot : ℕ → Place → Place
at_spot n place = record place { spot = Some n }

-- the word of a part
abbrev pub part_text : Part → List ℕ
part_text part.Top = codes "top"
part_text part.Core = codes "core"
part_text part.Stimulus = codes "stimulus"
part_text part.Label = codes "label"
part_text part.Task = codes "task"
part_text part.Chain = codes "chain"
part_text part.Requirement = codes "requirement"

-- a key as a model file writes it
abbrev pub key_text : Key → List ℕ
key_text key.Format = codes "format"
key_text key.Version = codes "version"
key_text key.Core = codes "core"
key_text key.Stimulus = codes "stimulus"
key_text key.Label = codes "label"
key_text key.Task = codes "task"
key_text key.Chain = codes "chain"
key_text key.Requirement = codes "requirement"
key_text key.Name = codes "name"
key_text key.Kind = codes "kind"
key_text key.Period = codes "period"
key_text key.Offset = codes "offset"
key_text key.Jitter = codes "jitter"
key_text key.Count = codes "count"
key_text key.Distance = codes "distance"
key_text key.Least = codes "least"
key_text key.Greatest = codes "greatest"
key_text key.Whole = codes "whole"
key_text key.Priority = codes "priority"
key_text key.Access = codes "access"
key_text key.Deadline = codes "deadline"
key_text key.Runnable = codes "runnable"
key_text key.Reads = codes "reads"
key_text key.Writes = codes "writes"
key_text key.Runnables = codes "runnables"
key_text key.Labels = codes "labels"
key_text key.Most = codes "most"

-- `[n]`, where there is a number
abbrev pub index_text : Option ℕ → List ℕ
index_text None = []
index_text (Some n) = codes "[" ++ decimal n ++ codes "]"

-- `.runnable[n]`, where there is a number
abbrev pub sub_text : Option ℕ → List ℕ
sub_text None = []
sub_text (Some n) = codes ".runnable[" ++ decimal n ++ codes "]"

-- `.key`, where there is a key
abbrev pub dotted_text : Option Key → List ℕ
dotted_text None = []
dotted_text (Some k) = codes "." ++ key_text k

-- `part[item].runnable[sub].key[spot]`, each only where it is there
abbrev pub place_text : Place → List ℕ
place_text p = part_text p.part ++ index_text p.item ++ sub_text p.sub ++ dotted_text p.key ++ index_text p.spot
