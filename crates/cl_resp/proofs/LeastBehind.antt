-- The response by phases of the runnables up to a place: the whole response leaves room behind it
-- for the greatest times of the runnables that are left.
use Rattle.std.proofs.Common.{◌≡◌, ℕ, suc, ◌+◌, ◌-◌, ◌<◌, ◌≤◌, Bool, Option, Some, None, ℤ, pos, ◌+ℤ◌, ◌-ℤ◌, ◌≤ℤ◌, length, arith}
use Rattle.std.proofs.Math.Nat.{mul-le-mul_right}
use Rattle.std.proofs.lemmas.Int.{ints}
use Rattle.std.proofs.lemmas.List.Sums.{sum_by-le-sum_by, sum_by-take-drop}
use Rattle.cl_model.specs.{declared.stimulus.StimulusKind.StimulusKind, Timing.greatest_jitter}
use Rattle.cl_runs.specs.{TaskTiming.{TimeRange, Timing, System, timing_at, IsSound}, Priorities.tasks_above, ExecutionTimes.greatest_execution}
use Rattle.cl_stim.specs.declared.phase.Phase.{Phase}
use Rattle.cl_stim.proofs.Releases.{most_rises}
use Rattle.cl_cycle.specs.Cycles.{is_one_of, in_phase_above, cycle_of}
use Rattle.cl_cycle.proofs.CountedTicks.{wider_has}
use Rattle.cl_resp.specs.{Asked.AnswersWithin, ByPhase.{phase_if, released_by, time_by, demand_by, asked_with, asked_by_phase, response_through, IsSettledByPhase}, Clear.{greatest_through, greatest_behind}}
use Rattle.cl_resp.proofs.{LeastAnswers.finds_some, LeastParts.{settled_least, execution_in_response}, LeastRound.asked_comes_round, PhasedAnswers.through_between}

-- the runnables up to a place and those behind it are all
pub through_and_behind : (task : Timing) (place : ℕ) → greatest_through task place + greatest_behind task place ≡ greatest_execution task
unfolding greatest_through greatest_behind greatest_execution
through_and_behind task place = sum_by-take-drop (λ (range : TimeRange). range.greatest) task.ranges (suc place)

-- ---- in a narrower window the tasks above are released no more often

released_rises : (phase : Option Phase) (kind : StimulusKind) (start : ℤ) (narrow wide : ℕ) → narrow ≤ wide
    → released_by phase kind start narrow ≤ released_by phase kind start wide
released_rises (Some phase) kind start narrow wide le =
    wider_has phase (start -ℤ pos (greatest_jitter kind)) (narrow + greatest_jitter kind) (wide + greatest_jitter kind) (omega (arith, le))
released_rises None kind start narrow wide le = most_rises kind narrow wide le

module _ (system : System) (in_phase : ℕ → Bool) where
  time_rises : (start : ℤ) (narrow wide : ℕ) → narrow ≤ wide → (other : ℕ)
      → time_by system in_phase start narrow other ≤ time_by system in_phase start wide other
  time_rises start narrow wide le other =
      let kind = (timing_at system other).pattern in
      mul-le-mul_right (greatest_execution (timing_at system other)) (released_rises (phase_if (in_phase other) kind) kind start narrow wide le)

  -- ---- so with less work of the task itself, windows end sooner by that much

  module _ (task own behind whole : ℕ) (all : own + behind ≡ whole) (start : ℤ) where
    asks_all : (width : ℕ) → whole ≤ demand_by system in_phase task whole start width
    unfolding demand_by
    asks_all width = omega arith

    enough_sooner : (narrow width : ℕ) → narrow + behind ≡ width → demand_by system in_phase task whole start width ≤ width
        → demand_by system in_phase task own start narrow ≤ narrow
    unfolding demand_by
    enough_sooner narrow width is enough =
        let rises = sum_by-le-sum_by (time_by system in_phase start narrow) (time_by system in_phase start width) (tasks_above system task)
        (time_rises start narrow width (omega (arith, is))) in
        omega (arith, all, is, rises, enough)

  ends_sooner : (start arrival : ℤ) (narrow width lesser response behind : ℕ) → narrow + behind ≡ width → lesser + behind ≡ response
      → (start +ℤ pos width) ≤ℤ (arrival +ℤ pos response) → (start +ℤ pos narrow) ≤ℤ (arrival +ℤ pos lesser)
  ends_sooner start arrival narrow width lesser response behind is less by = omega (arith, ints, is, less, by)

  pub answered_sooner : (cycle task own behind whole lesser response : ℕ) → 1 ≤ own → own + behind ≡ whole → lesser + behind ≡ response
      → AnswersWithin (asked_with system in_phase cycle task whole) response → AnswersWithin (asked_with system in_phase cycle task own) lesser
  answered_sooner cycle task own behind whole lesser response some all less answers arrival start arrives begins =
      let ends = answers arrival start arrives (record { after = begins.after; by = begins.by }) in
      let room : whole ≤ ends.width = omega (arith, asks_all task own behind whole all start ends.width, ends.enough) in
      let is : (ends.width - behind) + behind ≡ ends.width = omega (arith, all, room) in
      record {
        width = ends.width - behind;
        some = omega (arith, some, all, room);
        by = ends_sooner start arrival (ends.width - behind) ends.width lesser response behind is less ends.by;
        enough = enough_sooner task own behind whole all start (ends.width - behind) ends.width is ends.enough;
      }

-- ---- the response up to a place

pub part_leaves_room : (system : System) → IsSound system → (task response : ℕ) → IsSettledByPhase system task response
    → (place : ℕ) → place < length (timing_at system task).ranges
    → (through : ℕ) × (response_through system task place ≡ Some through) × (through + greatest_behind (timing_at system task) place ≤ response)
unfolding response_through
part_leaves_room system sound task response settled place within =
    let least = settled_least system sound task response settled in
    let own = greatest_through (timing_at system task) place in
    let behind = greatest_behind (timing_at system task) place in
    let all = through_and_behind (timing_at system task) place in
    let some = (through_between system sound task settled.is_task place).0 in
    let room = execution_in_response system sound task response settled in
    let less : (response - behind) + behind ≡ response = omega (arith, all, room) in
    let (through, is, by) = finds_some (asked_by_phase system task own) (asked_comes_round system sound task own settled.is_task) (response - behind)
    (omega (arith, some, all, room)) (omega (arith, least.by_deadline))
    (answered_sooner system (is_one_of (in_phase_above system task)) (cycle_of system task) task own behind (greatest_execution (timing_at system task))
    (response - behind) response some all less least.answers) in
    (through, is, omega (arith, by, less))
