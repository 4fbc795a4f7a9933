-- The answers to the questions of the tasks of a system.
use Rattle.std.specs.Prelude.{◌≡◌, ℕ, Bool, true, false, List, map, slice_index_or, All, Option, Some, None}
use Rattle.cl_model.specs.declared.group.Group.{Group}
use Rattle.cl_runs.specs.TaskTiming.{Timing, System}
use Rattle.cl_resp.specs.{Question.question_of, Response.{Response, response_to}}
use Rattle.cl_bound.specs.declared.answer.TaskAnswer.{TaskAnswer, TheVariants.{Settled, Late}}

-- the answer for a task that has this response, or none
abbrev pub answer_with : Option Response → TaskAnswer
answer_with (Some response) = Settled response
answer_with None = Late

-- the answer to the question of a task
abbrev pub answer_to : System → Timing → TaskAnswer
answer_to system task = answer_with (response_to (question_of system task))

-- the answers for all tasks, in file order
unfoldable pub answers_of : System → List TaskAnswer
answers_of system = map (answer_to system) system.tasks

-- whether a task is late
abbrev pub is_late : TaskAnswer → Bool
is_late (Settled response) = false
is_late Late = true

-- the response of a task that isn't late
abbrev pub response_in : TaskAnswer → ℕ
response_in (Settled response) = response.response
response_in Late = 0

-- the answer for the task of a number
abbrev pub answer_at : List TaskAnswer → (task : ℕ) → TaskAnswer
answer_at answers task = slice_index_or answers task Late

-- none of the tasks of these groups is late
abbrev pub NoneIsLate : (answers : List TaskAnswer) → (groups : List Group) → Type 0
NoneIsLate answers groups = All (λ (group : Group). is_late (answer_at answers group.task) ≡ false) groups
