use Rattle.std.proofs.Common.{◌+◌, ◌≤◌}
use Rattle.cl_analyse.proofs.AnswerLists.{AreFirstExacts}
use Rattle.cl_analyse.proofs.exact_answers.answer_exacts.Given as goal

abbrev pub invariant-loop-chain : goal.invariant-loop-chain
invariant-loop-chain g l = AreFirstExacts l.model l.chain l.answers × (l.steps ≤ l.initial.steps + l.chain)
