-- The window in which a task is answered worst. Times are in ticks, and moments may lie before 0.
use Rattle.std.specs.Prelude.{◌≡◌, ℕ, ℤ, pos, negsuc, ◌+ℤ◌, ◌-ℤ◌, ◌≤ℤ◌, ◌<ℤ◌, ◌-◌, ◌<◌, ◌≤◌, ◌&&◌, nat_lt, Bool, true, false, List, [], ◌∷◌, filter, Option, Some, None}
use Rattle.std.specs.List.{list_any}
use Rattle.std.specs.Option.{option_map}
use Rattle.cl_model.specs.Timing.{greatest_jitter}
use Rattle.cl_runs.specs.{TaskTiming.{System, timing_at}, Priorities.tasks_above, ExecutionTimes.greatest_execution}
use Rattle.cl_stim.specs.{declared.phase.Phase.Phase, Phase.{IsArrivalOf, phase_of, arrives_at}}
use Rattle.cl_cycle.specs.{Counts.arrivals_of, Cycles.{is_one_of, in_phase_above}}
use Rattle.cl_resp.specs.{declared.worst.WorstWindow.WorstWindow, Asked.{Asked, MayBegin}, ByPhase.{asked_by_phase, response_by_phase}, Response.Response}

-- ---- within how many ticks not all is answered

-- one less than the response, or the deadline where there is none
abbrev pub less_than : (response : Option ℕ) → (deadline : ℕ) → ℕ
less_than (Some response) deadline = response - 1
less_than None deadline = deadline

-- the most ticks within which some arrival of a task isn't answered
abbrev pub within_of : System → (task : ℕ) → ℕ
within_of system task = less_than (option_map (λ (settled : Response). settled.response) (response_by_phase system task)) (timing_at system task).deadline

-- ---- of fixed arrivals

-- no window that begins at a moment holds its own demand and ends by another
abbrev pub NoneEndsBy : Asked → (start latest : ℤ) → Type 0
NoneEndsBy asked start latest = (width : ℕ) → 1 ≤ width → (start +ℤ pos width) ≤ℤ latest → width < asked.demand start width

-- the window of an arrival in the cycle may begin at a moment, and none from there on ends within so many ticks of it
pub record IsUnanswered (asked : Asked) (within : ℕ) (arrival start : ℤ) : Type 0 where
  pub not_before : pos 0 ≤ℤ arrival
  pub in_cycle : arrival <ℤ pos asked.cycle
  pub arrives : IsArrivalOf asked.arrivals arrival
  pub may_begin : MayBegin asked arrival start
  pub none : NoneEndsBy asked start (arrival +ℤ pos within)

-- of the first arrival that has an unanswered beginning, the latest
pub record IsFirstUnanswered (asked : Asked) (within : ℕ) (window : WorstWindow) : Type 0 where
  pub unanswered : IsUnanswered asked within window.arrival window.start
  pub first : (arrival start : ℤ) → IsUnanswered asked within arrival start → window.arrival ≤ℤ arrival
  pub latest : (start : ℤ) → IsUnanswered asked within window.arrival start → start ≤ℤ window.start

-- ---- of arrivals that aren't fixed

-- whether a moment lies in the first so many ticks
abbrev pub lies_in : (ticks : ℕ) → (moment : ℤ) → Bool
lies_in ticks (pos moment) = nat_lt moment ticks
lies_in ticks (negsuc _) = false

-- whether a job that arrives in the cycle by a phase is released at a moment, when it waits for its whole jitter
abbrev pub is_released_in : (cycle : ℕ) → (start : ℤ) → Phase → (jitter : ℕ) → Bool
is_released_in cycle start phase jitter = lies_in cycle (start -ℤ pos jitter) && arrives_at phase (start -ℤ pos jitter)

-- one of a list passes a test, or a moment is 0 where there are none
abbrev pub PassesOrZero : {X : Type 0} → (test : X → Bool) → List X → (start : ℤ) → Type 0
PassesOrZero test [] start = start ≡ pos 0
PassesOrZero test (first ∷ rest) start = list_any test (first ∷ rest) ≡ true

-- a task above one in phase is released at a moment so, or none is in phase and the moment is 0
abbrev pub IsCandidate : System → (task : ℕ) → (cycle : ℕ) → (start : ℤ) → Type 0
IsCandidate system task cycle start = PassesOrZero
    (λ other. is_released_in cycle start (arrivals_of (timing_at system other).pattern) (greatest_jitter (timing_at system other).pattern))
    (filter (is_one_of (in_phase_above system task)) (tasks_above system task)) start

-- the least of the candidates from which on no window ends within so many ticks; a job arrives there
pub record IsLeastUnanswered (asked : Asked) (candidate : ℤ → Type 0) (within : ℕ) (window : WorstWindow) : Type 0 where
  pub arrives : window.arrival ≡ window.start
  pub is_candidate : candidate window.start
  pub none : NoneEndsBy asked window.start (window.start +ℤ pos within)
  pub least : (start : ℤ) → candidate start → NoneEndsBy asked start (start +ℤ pos within) → window.start ≤ℤ start

-- ---- of a task

-- by what is asked of it, and by whether its arrivals are fixed
abbrev pub IsWorstBy : Option Phase → Asked → (candidate : ℤ → Type 0) → (within : ℕ) → WorstWindow → Type 0
IsWorstBy (Some phase) asked candidate within window = IsFirstUnanswered asked within window
IsWorstBy None asked candidate within window = IsLeastUnanswered asked candidate within window

-- the worst window of a task by the phases of the tasks above it
pub record IsWorstWindowOf (system : System) (task : ℕ) (window : WorstWindow) : Type 0 where
  pub worst : IsWorstBy (phase_of (timing_at system task).pattern) (asked_by_phase system task (greatest_execution (timing_at system task)))
      (IsCandidate system task (asked_by_phase system task (greatest_execution (timing_at system task))).cycle)
      (within_of system task) window
