use Rattle.std.proofs.Common.{length}
use Rattle.cl_edit.specs.Inner.Left.{said_left, HasNumbers}
use Rattle.cl_edit.proofs.ReadLines.{AreRead}
use Rattle.cl_edit.proofs.edit_lines.EditLines.of.Given as goal

-- the lines behind the title say the edits so far, and what is left
abbrev pub invariant-loop-listed : goal.invariant-loop-listed
invariant-loop-listed l = record {
  read : AreRead l.text l.left l.lines l.counted;
  numbers : HasNumbers l.lines;
}

abbrev pub decreases-loop-listed : goal.decreases-loop-listed
decreases-loop-listed l = length (said_left l.lines)
