-- The window that an answer has.
use Rattle.std.specs.Prelude.{ℕ, Option, Some, None}
use Rattle.cl_bound.specs.declared.answer.TaskAnswer.{TaskAnswer, TheVariants.{Settled, Late}}

-- that of a settled task
abbrev pub window_in : TaskAnswer → Option ℕ
window_in (Settled response) = Some response.window
window_in Late = None
