use Rattle.std.proofs.Common.{◌++◌, length}
use Rattle.cl_edit.specs.Reading.{AreEditsOf}
use Rattle.cl_edit.proofs.reading.read_edits.Given as goal

-- the text lists the edits so far, and those that are left
abbrev pub invariant-loop-listed : goal.invariant-loop-listed
invariant-loop-listed l = AreEditsOf l.text (l.listed ++ l.lines)

abbrev pub decreases-loop-listed : goal.decreases-loop-listed
decreases-loop-listed l = length l.lines
