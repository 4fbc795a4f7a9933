-- Edits that are read one at a time.
use Rattle.std.specs.Prelude.{◌≡◌, Option, Some, None, List, [], ◌∷◌}
use Rattle.cl_edit.specs.declared.edit_lines.ListedEdit.{ListedEdit}

-- what is read is the first of the edits that were left, and the others are left; or there is none
abbrev pub GivesNext : Option ListedEdit → (before after : List ListedEdit) → Type 0
GivesNext (Some listed) before after = before ≡ listed ∷ after
GivesNext None before after = before ≡ []
