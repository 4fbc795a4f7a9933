use Rattle.std.proofs.Common.{length}
use Rattle.cl_top.specs.Commands.CheckFile.{all_accepted, edit_mended}
use Rattle.cl_top.proofs.LinesApplied.{AreLeftToApply}
use Rattle.cl_top.proofs.commands.check_list.try_lines.Given as goal

-- what the edits that are left come to is what all of them come to
abbrev pub invariant-loop-model : goal.invariant-loop-model
invariant-loop-model l = AreLeftToApply all_accepted (edit_mended l.fn.text) l.fn.model l.fn.lines l.model l.lines

abbrev pub decreases-loop-model : goal.decreases-loop-model
decreases-loop-model l = length l.lines
