-- Worst windows of valid models lie near 0, and move by few cycles to where arrivals are those of their phases. Times are in
-- ticks, and moments may lie before 0.
use Rattle.std.proofs.Common.{◌≡◌, ℕ, zero, suc, ◌-◌, ◌*◌, ◌^◌, ◌<◌, ◌≤◌, Bool, true, ℤ, pos, ◌+ℤ◌, ◌-ℤ◌, ◌≤ℤ◌, ◌<ℤ◌, List, [], ◌∷◌, length, sym, ap, ◌∙◌, subst, arith}
use Rattle.std.specs.Prelude.{All, Option, Some, None, filter}
use Rattle.std.specs.List.{range_with_len}
use Rattle.std.specs.Int.{int_min}
use Rattle.std.proofs.lemmas.Int.{ints, clamps}
use Rattle.std.proofs.lemmas.List.Elements.{All-filter}
use Rattle.std.proofs.lemmas.List.Folds.{Any-from_list_any}
use Rattle.std.proofs.lemmas.List.FromFn.{get_or-range_with_len, length-range_with_len}
use Rattle.cl_model.specs.{declared.{limits.TheConstants.MOST_TICKS, model.SystemModel.SystemModel, stimulus.StimulusKind.{StimulusKind, TheVariants.{Periodic, Sporadic, Burst}}}, Ranges.IsKindInRange, Timing.greatest_jitter, Validity.IsValid}
use Rattle.cl_model.proofs.ValidTasks.{kind_in_range}
use Rattle.cl_runs.specs.{Priorities.{is_above, tasks_above}, SystemOf.system_of, TaskTiming.{Timing, timing_at}, ExecutionTimes.greatest_execution}
use Rattle.cl_runs.proofs.ModelSystem.{timing_is, count_is, system_sound}
use Rattle.cl_stim.specs.{declared.phase.Phase.Phase, Integers.IsIntegerWithin, Phase.{IsPhase, last_arrival, phase_of, arrives_at}}
use Rattle.cl_stim.proofs.PhaseSteps.{last_within}
use Rattle.cl_cycle.specs.{declared.cycle.TheConstants.MOST_IN_CYCLE, Counts.arrivals_of, Cycles.{is_one_of, in_phase_above, cycle_of}}
use Rattle.cl_cycle.proofs.CycleLengths.{cycle_short}
use Rattle.cl_resp.specs.{declared.worst.WorstWindow.WorstWindow, Asked.Asked, ByPhase.asked_by_phase, Worst.{within_of, lies_in, is_released_in, PassesOrZero, IsCandidate, IsFirstUnanswered, IsLeastUnanswered, IsWorstBy, IsWorstWindowOf}}
use Rattle.cl_resp.proofs.{LeastRound.asked_comes_round, WorstCandidates.{not_below, lies_before, both}, WorstPlaces.held}
use Rattle.cl_phase.specs.Whole.{LATEST_STEADY, IsLeastTurns}
use Rattle.cl_near.specs.Plans.{IsWindowOfRun}

-- ---- the numbers of a stimulus

jitter_few : (kind : StimulusKind) → IsKindInRange kind → greatest_jitter kind ≤ MOST_TICKS
jitter_few (Periodic period offset jitter) range = range.2
jitter_few (Sporadic least greatest) range = omega arith
jitter_few (Burst period offset count distance) range = omega arith

period_few : (kind : StimulusKind) → IsKindInRange kind → (arrivals_of kind).period ≤ MOST_TICKS
period_few (Periodic period offset jitter) range = range.0.1
period_few (Sporadic least greatest) range = omega arith
period_few (Burst period offset count distance) range = range.0.1

-- ---- where a window lies

-- a window arrives in the cycle or soon after it, and begins near its arrival
pub record IsNearCycle (cycle : ℕ) (window : WorstWindow) : Type 0 where
  pub not_before : pos 0 ≤ℤ window.arrival
  pub soon : window.arrival ≤ℤ (pos cycle +ℤ pos MOST_TICKS)
  pub after : window.arrival ≤ℤ (window.start +ℤ pos MOST_TICKS)
  pub by : window.start ≤ℤ (window.arrival +ℤ pos MOST_TICKS)

-- the beginnings of an arrival lie near it
begins_near : (phase : Phase) → IsPhase phase → phase.period ≤ MOST_TICKS → (jitter : ℕ) → jitter ≤ MOST_TICKS → (arrival start : ℤ)
    → (last_arrival phase (arrival -ℤ pos 1) +ℤ pos 1) ≤ℤ start → start ≤ℤ (arrival +ℤ pos jitter)
    → (arrival ≤ℤ (start +ℤ pos MOST_TICKS)) × (start ≤ℤ (arrival +ℤ pos MOST_TICKS))
begins_near phase is short jitter few arrival start after by =
    near (last_arrival phase (arrival -ℤ pos 1)) phase.period ((phase.count - 1) * phase.distance) (last_within phase is (arrival -ℤ pos 1)) short after
  where
    near : (last : ℤ) (period taken : ℕ) → ((arrival -ℤ pos 1) -ℤ (pos (period - taken) -ℤ pos 1)) ≤ℤ last → period ≤ MOST_TICKS
        → (last +ℤ pos 1) ≤ℤ start → (arrival ≤ℤ (start +ℤ pos MOST_TICKS)) × (start ≤ℤ (arrival +ℤ pos MOST_TICKS))
    near last period taken within short after = (omega (arith, ints, within, short, after), omega (arith, ints, by, few))

-- a release in the cycle comes in it or soon after it
released_near : (cycle : ℕ) (start : ℤ) (phase : Phase) (jitter : ℕ) → jitter ≤ MOST_TICKS → is_released_in cycle start phase jitter ≡ true
    → (pos 0 ≤ℤ start) × (start ≤ℤ (pos cycle +ℤ pos MOST_TICKS))
released_near cycle start phase jitter few is =
    let lies = (both (lies_in cycle (start -ℤ pos jitter)) (arrives_at phase (start -ℤ pos jitter)) is).0 in
    let after = not_below cycle (start -ℤ pos jitter) lies in
    let before = lies_before cycle (start -ℤ pos jitter) lies in
    (omega (arith, ints, after), omega (arith, ints, before, few))

module _ (model : SystemModel) (valid : IsValid model) where
  pattern_range : (other : ℕ) → other < length model.tasks → IsKindInRange (timing_at (system_of model) other).pattern
  pattern_range other known = subst IsKindInRange (ap (λ (t : Timing). t.pattern) (sym (timing_is model other known))) (kind_in_range model valid other known)

  module _ (task : ℕ) (known : task < length model.tasks) where
    abbrev asked : Asked
    asked = asked_by_phase (system_of model) task (greatest_execution (timing_at (system_of model) task))

    in_system : task < length (system_of model).tasks
    in_system = omega (arith, known, count_is model)

    -- the cycle is some, and short
    pub cycle_some : 1 ≤ cycle_of (system_of model) task
    cycle_some = (asked_comes_round (system_of model) (system_sound model valid) task (greatest_execution (timing_at (system_of model) task)) in_system).some

    pub cycle_few : cycle_of (system_of model) task ≤ MOST_IN_CYCLE * MOST_TICKS
    cycle_few = cycle_short model valid task known

    -- that of the first arrival that isn't answered
    first_near : (within : ℕ) (window : WorstWindow) → IsFirstUnanswered asked within window → IsNearCycle (cycle_of (system_of model) task) window
    first_near within window first =
        let is = first.unanswered in
        let kind = (timing_at (system_of model) task).pattern in
        let range = pattern_range task known in
        let before : window.arrival <ℤ pos (cycle_of (system_of model) task) = is.in_cycle in
        let near = begins_near asked.arrivals
        (asked_comes_round (system_of model) (system_sound model valid) task (greatest_execution (timing_at (system_of model) task)) in_system).phase
        (period_few kind range) asked.jitter (jitter_few kind range) window.arrival window.start is.may_begin.after is.may_begin.by in
        record {
          not_before = is.not_before;
          soon = omega (arith, ints, before);
          after = near.0;
          by = near.1;
        }

    -- the tasks above are tasks
    above_known : All (λ other. other < length model.tasks) (tasks_above (system_of model) task)
    above_known =
        let count = length (system_of model).tasks in
        let all = range_with_len 0 count in
        All-filter (λ other. is_above (timing_at (system_of model) task) (timing_at (system_of model) other)) (λ other. other < length model.tasks) all
        (λ k d lt.
        let within : k < count = omega (arith, lt, length-range_with_len 0 count) in
        omega (arith, within, get_or-range_with_len 0 count k d within, count_is model))

    abbrev released : ℤ → ℕ → Bool
    released start = λ other. is_released_in (cycle_of (system_of model) task) start (arrivals_of (timing_at (system_of model) other).pattern)
        (greatest_jitter (timing_at (system_of model) other).pattern)

    -- a moment of a list of such tasks
    passed_near : (start : ℤ) (others : List ℕ) → All (λ other. other < length model.tasks) others → PassesOrZero (released start) others start
        → (pos 0 ≤ℤ start) × (start ≤ℤ (pos (cycle_of (system_of model) task) +ℤ pos MOST_TICKS))
    passed_near start [] are is =
        let there : start ≡ pos 0 = is in
        (omega (arith, ints, there), omega (arith, ints, there))
    passed_near start (first ∷ rest) are is =
        let (k, other, within, there, passes) = Any-from_list_any (released start) (first ∷ rest) is in
        let one = subst (λ o. o < length model.tasks) there (are k other within) in
        released_near (cycle_of (system_of model) task) start (arrivals_of (timing_at (system_of model) other).pattern)
        (greatest_jitter (timing_at (system_of model) other).pattern) (jitter_few (timing_at (system_of model) other).pattern (pattern_range other one)) passes

    -- that of the least candidate that isn't answered
    least_near : (within : ℕ) (window : WorstWindow)
        → IsLeastUnanswered asked (IsCandidate (system_of model) task (cycle_of (system_of model) task)) within window
        → IsNearCycle (cycle_of (system_of model) task) window
    least_near within window least =
        let near = passed_near window.start (filter (is_one_of (in_phase_above (system_of model) task)) (tasks_above (system_of model) task))
        (All-filter (is_one_of (in_phase_above (system_of model) task)) (λ other. other < length model.tasks) (tasks_above (system_of model) task) above_known)
        least.is_candidate in
        record {
          not_before = omega (arith, ints, least.arrives, near.0);
          soon = omega (arith, ints, least.arrives, near.1);
          after = omega (arith, ints, least.arrives);
          by = omega (arith, ints, least.arrives);
        }

    by_kind : (fixed : Option Phase) (within : ℕ) (window : WorstWindow)
        → IsWorstBy fixed asked (IsCandidate (system_of model) task (cycle_of (system_of model) task)) within window
        → IsNearCycle (cycle_of (system_of model) task) window
    by_kind (Some phase) within window worst = first_near within window worst
    by_kind None within window worst = least_near within window worst

    -- the worst window lies near the cycle
    pub worst_near : (window : WorstWindow) → IsWorstWindowOf (system_of model) task window → IsNearCycle (cycle_of (system_of model) task) window
    worst_near window is =
        by_kind (phase_of (timing_at (system_of model) task).pattern) (within_of (system_of model) task) window is.worst

-- ---- by how much it moves

-- the least of its moments, moved by few cycles to where arrivals are steady
pub record IsMovedFew (cycle : ℕ) (window : WorstWindow) (ticks : ℤ) : Type 0 where
  pub moved : IsIntegerWithin (11000 * MOST_TICKS) ticks
  pub arrival : IsIntegerWithin (15000 * MOST_TICKS) (window.arrival +ℤ ticks)
  pub start : IsIntegerWithin (15000 * MOST_TICKS) (window.start +ℤ ticks)

pub moves_few : (cycle : ℕ) (window : WorstWindow) (first steady ticks : ℤ) → cycle ≤ MOST_IN_CYCLE * MOST_TICKS → IsNearCycle cycle window
    → IsIntegerWithin LATEST_STEADY steady → first ≤ℤ window.arrival → first ≤ℤ window.start → (window.arrival -ℤ pos MOST_TICKS) ≤ℤ first
    → IsLeastTurns first steady cycle ticks → IsMovedFew cycle window ticks
moves_few cycle window first steady ticks short near late by_arrival by_start close least = by least.turns least.are least.least
  where
    few : (whole : ℕ) → ticks ≡ pos whole → ticks ≤ℤ pos (10005 * MOST_TICKS) → ((first +ℤ ticks) ≤ℤ pos (10004 * MOST_TICKS)) → IsMovedFew cycle window ticks
    few whole is most moved = record {
      moved = (omega (arith, ints, is), omega (arith, ints, most));
      arrival = (omega (arith, ints, is, near.not_before), omega (arith, ints, moved, close));
      start = (omega (arith, ints, is, near.not_before, near.after), omega (arith, ints, moved, close, near.by));
    }

    by : (turns : ℕ) → ticks ≡ pos (turns * cycle) → (1 ≤ turns → (first +ℤ ticks) <ℤ (steady +ℤ pos cycle)) → IsMovedFew cycle window ticks
    by zero are least =
        let none : zero * cycle ≡ 0 = omega arith in
        let is : ticks ≡ pos 0 = are ∙ ap pos none in
        few 0 is (omega (arith, ints, is)) (omega (arith, ints, is, by_arrival, near.soon, short))
    by (suc turns) are least =
        let before = least (omega arith) in
        few (suc turns * cycle) are (omega (arith, ints, before, late, short, close, near.not_before)) (omega (arith, ints, before, late, short))

-- ---- the window of a run

module _ (model : SystemModel) (valid : IsValid model) (task : ℕ) (known : task < length model.tasks) (window : WorstWindow)
    (worst : IsWorstWindowOf (system_of model) task window) where
  near : IsNearCycle (cycle_of (system_of model) task) window
  near = worst_near model valid task known window worst

  short : cycle_of (system_of model) task ≤ MOST_IN_CYCLE * MOST_TICKS
  short = cycle_few model valid task known

  -- 64 signed bits hold its moments
  pub held_arrival : held window.arrival ≡ window.arrival
  held_arrival = omega (arith, ints, near.not_before, near.soon, short)

  pub held_start : held window.start ≡ window.start
  held_start = omega (arith, ints, near.not_before, near.soon, near.after, near.by, short)

  module _ (cycle : ℕ) (is : cycle ≡ cycle_of (system_of model) task) {first steady ticks : ℤ} (least : first ≡ int_min window.arrival window.start)
      (late : IsIntegerWithin LATEST_STEADY steady)
      (turned : 1 ≤ cycle → pos cycle ≤ℤ pos (2 ^ 63 - 1) → ((steady -ℤ first) +ℤ pos cycle) ≤ℤ pos (2 ^ 63 - 1) → IsLeastTurns first steady cycle ticks) where
    close : (window.arrival -ℤ pos MOST_TICKS) ≤ℤ first
    close = omega (arith, ints, clamps, least, near.after)

    turns : IsLeastTurns first steady cycle ticks
    turns = turned (omega (arith, is, cycle_some model valid task known)) (omega (arith, ints, is, short))
        (omega (arith, ints, is, short, late, close, near.not_before))

    few : IsMovedFew cycle window ticks
    few = moves_few cycle window first steady ticks (omega (arith, is, short)) (subst (λ n. IsNearCycle n window) (sym is) near) late
        (omega (arith, ints, clamps, least)) (omega (arith, ints, clamps, least)) close turns

    moved_is : (moved : WorstWindow) → moved.arrival ≡ (window.arrival +ℤ ticks) → moved.start ≡ (window.start +ℤ ticks)
        → IsWindowOfRun (system_of model) task moved
    moved_is moved arrival start =
        let are = turns.are ∙ ap (λ n. pos (turns.turns * n)) is in
        record {
          worst = window;
          is_worst = worst;
          turns = turns.turns;
          arrival = arrival ∙ ap (λ t. window.arrival +ℤ t) are;
          start = start ∙ ap (λ t. window.start +ℤ t) are;
        }

    -- it moves by few ticks, and so to the window of a run
    pub moved_run : IsMovedFew cycle window ticks
        × ((moved : WorstWindow) → moved.arrival ≡ (window.arrival +ℤ ticks) → moved.start ≡ (window.start +ℤ ticks)
        → IsWindowOfRun (system_of model) task moved)
    moved_run = (few, moved_is)
