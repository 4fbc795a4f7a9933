-- How far the search for the window of a task came.
use Rattle.std.specs.Prelude.{◌≡◌, ◌<◌, length}
use Rattle.cl_runs.specs.TaskTiming.{System, timing_at}
use Rattle.cl_resp.specs.{declared.{question.Block.Block, reached.Reached.Reached}, Question.either_question, Response.NoneServesBelow}

-- no width below what was reached holds the demand of the question of its task, which is blocked for so long
pub record HasReached (blocking : Block) (system : System) (reached : Reached) : Type 0 where
  pub is_task : reached.task < length system.tasks
  pub block : reached.block ≡ (either_question blocking system (timing_at system reached.task)).block
  pub none : NoneServesBelow (either_question blocking system (timing_at system reached.task)) reached.width
