-- The answers for the tasks of a system on which tight bounds stand: those by phases.
use Rattle.std.specs.Prelude.{ℕ, List, map, length}
use Rattle.std.specs.List.{range_with_len}
use Rattle.cl_runs.specs.TaskTiming.{System}
use Rattle.cl_resp.specs.ByPhase.{response_by_phase}
use Rattle.cl_bound.specs.{declared.answer.TaskAnswer.TaskAnswer, Answers.{answer_with, answer_at, response_in}}

-- the answer by phases for the task of a number
abbrev pub tight_answer_to : System → (task : ℕ) → TaskAnswer
tight_answer_to system task = answer_with (response_by_phase system task)

-- the answers for all tasks, in file order
unfoldable pub tight_answers_of : System → List TaskAnswer
tight_answers_of system = map (tight_answer_to system) (range_with_len 0 (length system.tasks))

-- the response on which the tight bounds of the task of a number stand, where it isn't late
abbrev pub tight_response : System → (task : ℕ) → ℕ
tight_response system task = response_in (answer_at (tight_answers_of system) task)
