-- The response of a task by the phases of the tasks above it. Times are in ticks, and moments may lie before 0.
use Rattle.std.specs.Prelude.{◌≡◌, ℕ, ℤ, pos, ◌-ℤ◌, ◌+◌, ◌-◌, ◌*◌, ◌<◌, length, Bool, true, false, sum_by, Option, Some, None}
use Rattle.std.specs.Option.{option_map}
use Rattle.cl_model.specs.{declared.stimulus.StimulusKind.StimulusKind, Timing.greatest_jitter}
use Rattle.cl_runs.specs.{TaskTiming.{System, timing_at}, Priorities.tasks_above, ExecutionTimes.greatest_execution}
use Rattle.cl_stim.specs.{declared.phase.Phase.Phase, Phase.phase_of, Releases.most_releases}
use Rattle.cl_cycle.specs.{Counts.{arrivals_from, arrivals_of}, Cycles.{is_one_of, in_phase_above, cycle_of}}
use Rattle.cl_resp.specs.{Question.lower_block_of, Response.Response, Asked.{Asked, least_response}, Clear.greatest_through}

-- the phase by which a task counts: its own if it is in phase, else none
abbrev pub phase_if : (in_phase : Bool) → StimulusKind → Option Phase
phase_if true kind = phase_of kind
phase_if false kind = None

-- the most jobs that are released in the `width` ticks from a moment on: by a phase those that arrive at most the jitter
-- before, else as many as in any window as wide
abbrev pub released_by : Option Phase → StimulusKind → (start : ℤ) → (width : ℕ) → ℕ
released_by (Some phase) kind start width =
    arrivals_from phase (start -ℤ pos (greatest_jitter kind)) (width + greatest_jitter kind)
released_by None kind start width = most_releases kind width

-- how long these jobs of a task take at most
abbrev pub time_by : System → (in_phase : ℕ → Bool) → (start : ℤ) → (width other : ℕ) → ℕ
time_by system in_phase start width other =
    let kind = (timing_at system other).pattern in
    released_by (phase_if (in_phase other) kind) kind start width * greatest_execution (timing_at system other)

-- the most ticks of a window that are asked: for a runnable of a task below, for so much work of the task itself, and
-- for the jobs of the tasks above, of which these are in phase
unfoldable pub demand_by : System → (in_phase : ℕ → Bool) → (task own : ℕ) → (start : ℤ) → (width : ℕ) → ℕ
demand_by system in_phase task own start width =
    lower_block_of system (timing_at system task) + own + sum_by (time_by system in_phase start width) (tasks_above system task)

-- what is asked for so much work of a task, where these tasks are in phase and come round in so many ticks
abbrev pub asked_with : System → (in_phase : ℕ → Bool) → (cycle task own : ℕ) → Asked
asked_with system in_phase cycle task own = record {
  arrivals = arrivals_of (timing_at system task).pattern;
  cycle = cycle;
  jitter = greatest_jitter (timing_at system task).pattern;
  deadline = (timing_at system task).deadline;
  demand = demand_by system in_phase task own;
}

-- what is asked by the tasks in phase
abbrev pub asked_by_phase : System → (task own : ℕ) → Asked
asked_by_phase system task own =
    asked_with system (is_one_of (in_phase_above system task)) (cycle_of system task) task own

-- the response of a task by phases, and the window that its latest release leaves
unfoldable pub response_by_phase : System → (task : ℕ) → Option Response
response_by_phase system task = option_map
    (λ response. record { window = response - greatest_jitter (timing_at system task).pattern; response = response })
    (least_response (asked_by_phase system task (greatest_execution (timing_at system task))))

-- the response of its runnables up to a place
unfoldable pub response_through : System → (task place : ℕ) → Option ℕ
response_through system task place =
    least_response (asked_by_phase system task (greatest_through (timing_at system task) place))

-- the task of a number is settled by phases: it has this response
pub record IsSettledByPhase (system : System) (task response : ℕ) : Type 0 where
  pub is_task : task < length system.tasks
  pub window : ℕ
  pub answered : response_by_phase system task ≡ Some (record { window = window; response = response })
