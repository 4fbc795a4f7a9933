-- Which refusals are of an edit itself, and which are of the model that it makes.
use Rattle.std.specs.Prelude.{Bool, true, false}
use Rattle.cl_model.specs.declared.refusal.Code.{Code, TheVariants.{E2, E3, M10}}

-- a code of the first checks of an edit: of what it looks up, and of the room in a section
abbrev pub is_of_edit : Code → Bool
is_of_edit E2 = true
is_of_edit E3 = true
is_of_edit M10 = true
is_of_edit _ = false
