use Rattle.std.proofs.Common.{◌≡◌, ℕ, ◌<◌, false}
use Rattle.cl_resp.specs.Response.{response_to}
use Rattle.cl_bound.specs.Answers.{answer_with, is_late}
use Rattle.cl_tune.specs.Inner.Times.{question_with}
use Rattle.cl_tune.proofs.in_time.tasks_in_time.Given as goal

-- none of the tasks so far is late
abbrev pub invariant-loop-task : goal.invariant-loop-task
invariant-loop-task g l = (task : ℕ) → task < l.task → is_late (answer_with (response_to (question_with l.model l.times task))) ≡ false
