-- What is asked of, and by which word.
use Rattle.std.specs.Prelude.{ℕ, List, codes, Option, Some, None, if◌then◌else◌}
use Rattle.std.specs.Str.{bytes_eq}
use Rattle.cl_model.specs.{declared.{model.SystemModel.SystemModel, chain.{LengthKind.TheVariants.{Reaction, Age, Reduced}, RequirementKind.TheVariants.{Length, Delay}}}, Named.{task_names, chain_names, requirement_names}}
use Rattle.cl_top.specs.declared.subject.What.{What, TheVariants.{Response, Bound, Requirement}}

-- what a word asks of
unfoldable pub what_of : (word : List ℕ) → Option What
what_of word =
    if bytes_eq word (codes "response") then Some Response
    else if bytes_eq word (codes "reaction") then Some (Bound (Length Reaction))
    else if bytes_eq word (codes "age") then Some (Bound (Length Age))
    else if bytes_eq word (codes "reduced") then Some (Bound (Length Reduced))
    else if bytes_eq word (codes "delay") then Some (Bound Delay)
    else if bytes_eq word (codes "requirement") then Some Requirement
    else None

-- the word behind which its name stands
abbrev pub section_word : What → List ℕ
section_word Response = codes "task"
section_word (Bound kind) = codes "chain"
section_word Requirement = codes "requirement"

-- the names among which it is looked for
abbrev pub names_asked : What → SystemModel → List (List ℕ)
names_asked Response model = task_names model
names_asked (Bound kind) model = chain_names model
names_asked Requirement model = requirement_names model
