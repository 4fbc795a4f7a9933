-- How many edits were listed so far, and whether one more is one too many.
use Rattle.std.specs.Prelude.{◌+◌, Bool, nat_le, ◌&&◌, ◌||◌, cond, if◌then◌else◌, Result, Ok, Err}
use Rattle.cl_text.specs.declared.fault.LinesFault.{LinesFault, TheVariants.BadLine}
use Rattle.cl_edit.specs.{declared.{edit.Edit.Edit, edit_lines.{Counted.Counted, ListedEdit.ListedEdit}, limits.TheConstants.{MOST_EDITS, MOST_REPORTS}}, Reading.writes_text}

-- whether there is no room for this edit
abbrev pub is_full : Counted → Edit → Bool
is_full counted edit = nat_le MOST_EDITS counted.edits || (writes_text edit && nat_le MOST_REPORTS counted.written)

-- the counts with this edit
abbrev pub with_one : Counted → Edit → Counted
with_one counted edit = record { edits = counted.edits + 1; written = counted.written + cond (writes_text edit) 1 0 }

-- the same, where there is room
abbrev pub counted_with : Counted → ListedEdit → Result Counted LinesFault
counted_with counted listed = if is_full counted listed.edit then Err (BadLine listed.line) else Ok (with_one counted listed.edit)
