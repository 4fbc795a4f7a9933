-- The tasks above a task that are in phase, and those that aren't, as its question holds them.
use Rattle.std.specs.Prelude.{ℕ, Bool, true, false, not, List, map, filter}
use Rattle.cl_model.specs.Timing.{greatest_jitter}
use Rattle.cl_runs.specs.{TaskTiming.{System, timing_at}, Priorities.tasks_above, ExecutionTimes.greatest_execution}
use Rattle.cl_cycle.specs.{Counts.arrivals_of, Cycles.is_one_of}
use Rattle.cl_resp.specs.{declared.{question.Above.Above, phased.InPhase.InPhase}, Question.taken_by}

-- whether a task is among those in phase, or whether it isn't
abbrev pub counts_in_phase : (in_phase : Bool) → (cycle : List ℕ) → (other : ℕ) → Bool
counts_in_phase true cycle other = is_one_of cycle other
counts_in_phase false cycle other = not (is_one_of cycle other)

-- the tasks above a task that are, or aren't
abbrev pub counted_above : System → (in_phase : Bool) → (cycle : List ℕ) → (task : ℕ) → List ℕ
counted_above system in_phase cycle task = filter (counts_in_phase in_phase cycle) (tasks_above system task)

-- a task as it counts_in_phase by its phase
abbrev pub by_phase_of : System → (other : ℕ) → InPhase
by_phase_of system other = record {
  phase = arrivals_of (timing_at system other).pattern;
  jitter = greatest_jitter (timing_at system other).pattern;
  time = greatest_execution (timing_at system other);
}

-- those above a task that are in phase, and the others
abbrev pub in_phase_with : System → (cycle : List ℕ) → (task : ℕ) → List InPhase
in_phase_with system cycle task = map (by_phase_of system) (counted_above system true cycle task)

abbrev pub beside_with : System → (cycle : List ℕ) → (task : ℕ) → List Above
beside_with system cycle task = map (λ other. taken_by (timing_at system other)) (counted_above system false cycle task)
