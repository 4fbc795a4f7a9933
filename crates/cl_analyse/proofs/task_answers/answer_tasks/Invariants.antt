use Rattle.std.proofs.Common.{◌+◌, ◌≤◌}
use Rattle.std.specs.Prelude.{IfSome}
use Rattle.cl_runs.specs.{SystemOf.system_of, TaskTiming.Timing}
use Rattle.cl_resp.specs.{Question.either_question, Reached.HasReached, Response.response_to}
use Rattle.cl_bound.specs.Answers.{answer_with}
use Rattle.cl_analyse.proofs.TaskAnswers.{AreAnswered}
use Rattle.cl_analyse.proofs.task_answers.answer_tasks.Given as goal

-- the tasks of the order so far are answered, and what was reached is what the last one's search left
abbrev pub invariant-loop-task : goal.invariant-loop-task
invariant-loop-task g l = record {
  answered : AreAnswered (λ (timing : Timing). answer_with (response_to (either_question l.blocking (system_of l.model) timing))) (system_of l.model).tasks l.task-items l.task-index l.answers;
  last : IfSome l.last (HasReached l.blocking (system_of l.model));
  steps : l.steps ≤ l.initial.steps + l.task-index;
}
