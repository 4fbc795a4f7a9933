-- What a window of a run needs, what is asked of it by phases, and what is asked where no task is in
-- phase: each is no more than the next.
use Rattle.std.proofs.Common.{◌≡◌, ℕ, ◌<◌, ◌≤◌, ℤ, pos, ◌-ℤ◌, Bool, true, false, Option, Some, None, length, refl, arith, mul-le-mul_right}
use Rattle.cl_model.specs.{declared.stimulus.StimulusKind.StimulusKind, Timing.greatest_jitter}
use Rattle.cl_runs.specs.{Pattern.IsPattern, TaskTiming.{System, timing_at, IsSound}, Run.{Run, jobs_of}, Legal.IsLegal, ExecutionTimes.greatest_execution}
use Rattle.cl_runs.proofs.RunArrivals.{follow_pattern}
use Rattle.cl_stim.specs.{declared.phase.Phase.Phase, Phase.phase_of, Releases.{releases_in, most_releases}}
use Rattle.cl_stim.proofs.Releases.{few_releases}
use Rattle.cl_cycle.proofs.{CountedJobs.released_in_phase, CountedMost.most_arrivals}
use Rattle.cl_resp.specs.{Clear.{time_released, released_above, needed}, ByPhase.{phase_if, released_by, time_by, demand_by}}
use Rattle.cl_resp.proofs.{BusyWindowTotals.{total, total_rises, total_of_range}, BusyWindowTicks.above, BusyWindowDemand.{most_taken, HoldsDemand}}

-- a task that counts by a phase counts by its own
own_phase : (in_phase : Bool) (kind : StimulusKind) (phase : Phase) → phase_if in_phase kind ≡ Some phase → phase_of kind ≡ Some phase
own_phase true kind phase is = is
own_phase false kind phase is = cc

-- by its phase no more jobs of a task are released than at most in any window as wide
by_phase_few : (kind : StimulusKind) → IsPattern kind → (start : ℤ) (width : ℕ) (counted : Option Phase)
    → ((phase : Phase) → counted ≡ Some phase → phase_of kind ≡ Some phase) → released_by counted kind start width ≤ most_releases kind width
by_phase_few kind well start width (Some phase) own = most_arrivals kind well phase (own phase refl) (start -ℤ pos (greatest_jitter kind)) width
by_phase_few kind well start width None own = omega arith

module _ (system : System) (sound : IsSound system) (task : ℕ) where
  -- what each task takes at most bounds what is asked
  module _ (in_phase : ℕ → Bool) (own : ℕ) (start : ℤ) (width : ℕ) where
    -- the tasks above take no more by phases than they take of any window as wide
    few_by_phase : total (above system task) (time_by system in_phase start width) (length system.tasks)
        ≤ total (above system task) (most_taken system width) (length system.tasks)
    few_by_phase = total_rises (above system task) (time_by system in_phase start width) (most_taken system width) (length system.tasks)
        (λ j is_j _. mul-le-mul_right (greatest_execution (timing_at system j))
        (by_phase_few (timing_at system j).pattern (sound.tasks j is_j).pattern start width (phase_if (in_phase j) (timing_at system j).pattern)
        (own_phase (in_phase j) (timing_at system j).pattern)))

    -- so no more is asked by phases than where none is in phase
    pub choice_asks_less : demand_by system in_phase task own start width ≤ demand_by system (λ _. false) task own start width
    unfolding demand_by
    choice_asks_less = omega (
      arith,
      few_by_phase,
      total_of_range (above system task) (time_by system in_phase start width) (length system.tasks),
      total_of_range (above system task) (most_taken system width) (length system.tasks),
    )

  -- and a window that holds the demand of a question that asks enough holds it wherever it begins
  pub holds_anywhere : (block width : ℕ) → HoldsDemand system task block width → (in_phase : ℕ → Bool) (start : ℤ)
      → demand_by system in_phase task (greatest_execution (timing_at system task)) start width ≤ width
  unfolding demand_by
  holds_anywhere block width holds in_phase start = omega (
    arith,
    few_by_phase in_phase 0 start width,
    total_of_range (above system task) (time_by system in_phase start width) (length system.tasks),
    holds.enough,
    holds.blocked,
  )

module _ (system : System) (sound : IsSound system) (run : Run) (legal : IsLegal system run) where
  -- the jobs of a task that are released in a window of the run are no more than those that its
  -- phase, or else its pattern, allows
  released_few : (j : ℕ) → j < length system.tasks → (start width : ℕ) (counted : Option Phase)
      → ((phase : Phase) → counted ≡ Some phase → phase_of (timing_at system j).pattern ≡ Some phase)
      → releases_in (jobs_of run j) start width ≤ released_by counted (timing_at system j).pattern (pos start) width
  released_few j is start width (Some phase) own = released_in_phase system sound run legal j is phase (own phase refl) start width
  released_few j is start width None own = few_releases (timing_at system j).pattern (sound.tasks j is).pattern
      run.table.ticks (jobs_of run j) (follow_pattern system sound run legal j is) start width

  -- so no more is needed of the window than is asked of it
  pub needs_no_more : (in_phase : ℕ → Bool) (task own start width : ℕ)
      → needed system run task own start width ≤ demand_by system in_phase task own (pos start) width
  unfolding needed released_above demand_by
  needs_no_more in_phase task own start width = omega (
    arith,
    total_of_range (above system task) (time_released system run start width) (length system.tasks),
    total_of_range (above system task) (time_by system in_phase (pos start) width) (length system.tasks),
    total_rises (above system task) (time_released system run start width) (time_by system in_phase (pos start) width) (length system.tasks)
        (λ j is_j _. mul-le-mul_right (greatest_execution (timing_at system j)) (released_few j is_j start width
        (phase_if (in_phase j) (timing_at system j).pattern) (own_phase (in_phase j) (timing_at system j).pattern))),
  )
