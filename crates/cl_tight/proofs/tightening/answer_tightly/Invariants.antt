use Rattle.std.proofs.Common.{◌≡◌}
use Rattle.cl_tight.proofs.TightLists.{answers_below}
use Rattle.cl_tight.proofs.tightening.answer_tightly.Given as goal

-- the tasks so far are answered
abbrev pub invariant-loop-task : goal.invariant-loop-task
invariant-loop-task g l = l.answers ≡ answers_below l.model l.task
