use Rattle.std.proofs.Common.{◌≡◌, length}
use Rattle.cl_resp.specs.Question.{IsQuestionInRange}
use Rattle.cl_calls.proofs.responses.settles_a_task_below_a_crowd.Given as goal

-- the question stays in range, with one task more above it
abbrev pub invariant-loop : goal.invariant-loop
invariant-loop g l = record {
  in_range : IsQuestionInRange l.question;
  deadline : l.question.deadline ≡ 1000000000000;
  above : length l.question.above ≡ l.counter;
}
