use Rattle.std.proofs.Common.{length}
use Rattle.cl_top.proofs.LinesMade.{AreMadeSoFar}
use Rattle.cl_top.proofs.commands.edit.write_lines.Given as goal

-- what the edits so far have come to, and what is left
abbrev pub invariant-loop-text : goal.invariant-loop-text
invariant-loop-text g l = AreMadeSoFar l.fn.lines l.fn.session.model l.fn.steps l.session.model l.text l.steps l.lines

abbrev pub decreases-loop-text : goal.decreases-loop-text
decreases-loop-text g l = length l.lines
