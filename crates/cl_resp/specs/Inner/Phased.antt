-- The question of a task by phases as the code holds it.
use Rattle.std.specs.Prelude.{◌≡◌, ℕ, ℤ, pos, ◌-ℤ◌, ◌+◌, ◌*◌, ◌<◌, ◌≤◌, sum_by, length, All}
use Rattle.std.specs.Int.{◌∣◌}
use Rattle.cl_model.specs.declared.limits.TheConstants.{MOST_TICKS, MOST_RUNNABLES, MOST_TASKS_OF_CORE}
use Rattle.cl_stim.specs.Phase.{IsPhaseInRange}
use Rattle.cl_cycle.specs.{declared.cycle.TheConstants.MOST_IN_CYCLE, Counts.arrivals_from}
use Rattle.cl_runs.specs.TaskTiming.{System}
use Rattle.cl_resp.specs.{declared.phased.{InPhase.InPhase, PhasedQuestion.PhasedQuestion}, Question.IsQuestionInRange, Response.demand, Asked.Asked, ByPhase.asked_by_phase}

-- how long the jobs of a task in phase take at most of a window
abbrev pub time_in_phase : (start : ℤ) → (width : ℕ) → InPhase → ℕ
time_in_phase start width above =
    arrivals_from above.phase (start -ℤ pos above.jitter) (width + above.jitter) * above.time

-- what such a question asks
abbrev pub asked_of : PhasedQuestion → Asked
asked_of question = record {
  arrivals = question.arrivals;
  cycle = question.cycle;
  jitter = question.beside.jitter;
  deadline = question.beside.deadline;
  demand = λ start width. demand question.beside width + sum_by (time_in_phase start width) question.in_phase;
}

-- a task in phase whose numbers are those of a valid model, and which comes round in so many ticks
pub record IsInPhaseInRange (cycle : ℕ) (above : InPhase) : Type 0 where
  pub phase : IsPhaseInRange above.phase
  pub comes_round : above.phase.period ∣ cycle
  pub jitter : above.jitter ≤ MOST_TICKS
  pub time : above.time ≤ MOST_RUNNABLES * MOST_TICKS

-- a question whose numbers are those of a valid model
pub record IsPhasedInRange (question : PhasedQuestion) : Type 0 where
  pub beside : IsQuestionInRange question.beside
  pub arrivals : IsPhaseInRange question.arrivals
  pub comes_round : question.arrivals.period ∣ question.cycle
  pub some : 1 ≤ question.cycle
  pub short : question.cycle ≤ MOST_IN_CYCLE * MOST_TICKS
  pub few : length question.in_phase < MOST_TASKS_OF_CORE
  pub in_phase : All (IsInPhaseInRange question.cycle) question.in_phase

-- it asks what so much work of a task does
pub record IsPhasedQuestionOf (system : System) (task own : ℕ) (question : PhasedQuestion) : Type 0 where
  pub arrivals : question.arrivals ≡ (asked_by_phase system task own).arrivals
  pub cycle : question.cycle ≡ (asked_by_phase system task own).cycle
  pub jitter : question.beside.jitter ≡ (asked_by_phase system task own).jitter
  pub deadline : question.beside.deadline ≡ (asked_by_phase system task own).deadline
  pub demand : (start : ℤ) (width : ℕ) → (asked_of question).demand start width ≡ (asked_by_phase system task own).demand start width

-- no window that begins at this moment and is narrower holds its own demand
abbrev pub NoneBefore : Asked → (start : ℤ) → (width : ℕ) → Type 0
NoneBefore asked start width = (lesser : ℕ) → 1 ≤ lesser → lesser < width → lesser < asked.demand start lesser

-- the least window that begins at this moment and holds its own demand
pub record IsLeastFrom (asked : Asked) (start : ℤ) (width : ℕ) : Type 0 where
  pub some : 1 ≤ width
  pub enough : asked.demand start width ≤ width
  pub least : NoneBefore asked start width

-- this window holds what is asked, wherever it begins
abbrev pub ServesAnywhere : Asked → (width : ℕ) → Type 0
ServesAnywhere asked width = (start : ℤ) → asked.demand start width ≤ width
