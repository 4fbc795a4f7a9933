-- What a response promises of legal runs.
use Rattle.std.specs.Prelude.{ℕ, ◌+◌, ◌<◌, ◌≤◌, length}
use Rattle.cl_runs.specs.{TaskTiming.{System, timing_at, IsSound}, Responses.AlwaysFinishesWithin, Table.job_at, Run.{Run, jobs_of}, Legal.IsLegal}
use Rattle.cl_resp.specs.{declared.question.Question.Question, Clear.FinishesBy, Question.AsksEnough}

-- a response answers for a question: each job of each task of each sound system (as those of valid models are) of which
-- the question asks enough finishes within it, in every legal run
abbrev pub AnswersFor : Question → (response : ℕ) → Type 0
AnswersFor question response =
    (system : System) → IsSound system → (task : ℕ) → task < length system.tasks
    → AsksEnough system (timing_at system task) question → AlwaysFinishesWithin system task response

-- each job of a task that arrives so long or more before the end of a run has finished a runnable so long after its
-- arrival
pub record FinishesThrough (system : System) (run : Run) (task place through : ℕ) : Type 0 where
  pub each : (job : ℕ) → job < length (jobs_of run task) → (job_at (jobs_of run task) job).arrival + through ≤ run.table.ticks
      → FinishesBy system run task job place ((job_at (jobs_of run task) job).arrival + through)

-- in every legal run of the system, of any length, each job of a task does
abbrev pub AlwaysFinishesThrough : System → (task place through : ℕ) → Type 0
AlwaysFinishesThrough system task place through = (run : Run) → IsLegal system run → FinishesThrough system run task place through
