-- What becomes of an edit of a list that is checked.
use Rattle.std.specs.Prelude.{◌≡◌, ℕ, List, Ok, Err}
use Rattle.cl_model.specs.declared.{model.SystemModel.SystemModel, refusal.Refusal.Refusal}
use Rattle.cl_edit.specs.{declared.edit_lines.ListedEdit.ListedEdit, Changing.{with_change, MayBeMade}, Edited.edited}
use Rattle.cl_engine.specs.declared.outcome.Outcome.{Outcome}
use Rattle.cl_top.specs.{declared.commands.check_list.{Tried.Tried, Left.Left}, Commands.CheckFile.edit_mended}
use Rattle.cl_top.specs.declared.commands.check_list.Tried.TheVariants as tried
use Rattle.cl_top.specs.declared.commands.check_list.Left.TheVariants as left

-- it is refused with this outcome
abbrev pub IsStoppedBy : (text : List ℕ) → SystemModel → ListedEdit → Outcome → Type 0
IsStoppedBy text model listed found =
    (refusal : Refusal) × (edited model listed.edit ≡ Err refusal) × (found ≡ edit_mended text model listed.line listed.edit refusal)

-- it is accepted and is this change, or refused
abbrev pub IsTriedAs : (text : List ℕ) → SystemModel → ListedEdit → Tried → Type 0
IsTriedAs text model listed (tried.Accepted change) = MayBeMade model change × (edited model listed.edit ≡ Ok (with_change model change))
IsTriedAs text model listed (tried.Stopped found) = IsStoppedBy text model listed found

-- it is accepted and leaves this model, or is refused
abbrev pub IsLeftBy : (text : List ℕ) → SystemModel → ListedEdit → Left → Type 0
IsLeftBy text model listed (left.Model changed) = edited model listed.edit ≡ Ok changed
IsLeftBy text model listed (left.Outcome found) = IsStoppedBy text model listed found
