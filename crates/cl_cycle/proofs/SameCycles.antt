-- Which tasks stand above a task, which of these are in phase, and its cycle don't depend on the runnables of tasks.
-- Each proof is the definition with the numbers of one system turned into those of the other.
use Rattle.std.proofs.Common.{◌≡◌, ℕ, ◌==◌, ◌&&◌, List, [], ◌∷◌, ◌++◌, map}
use Rattle.std.specs.Prelude.{◌*◌, if◌then◌else◌, not, nat_le, nat_lt, sum_by}
use Rattle.std.specs.List.{filter, fold, flat_map, range_with_len}
use Rattle.std.specs.Option.{option_to_list}
use Rattle.cl_model.specs.declared.limits.TheConstants.{MOST_TICKS}
use Rattle.cl_runs.specs.{TaskTiming.System, Priorities.tasks_above}
use Rattle.cl_stim.specs.{Multiples.hyperperiod_of, Phase.phase_of, Releases.most_releases}
use Rattle.cl_cycle.specs.{declared.cycle.TheConstants.{MOST_IN_CYCLE, MOST_WORK}, Counts.arrivals_of, Cycles.{phases_with, arrivals_together, is_of_period, by_period, joined_by, gathered_above, is_one_of, work_with, in_phase_above, cycle_of}, DifferingRunnables.DifferInRunnables}

module _ (one other : System) (alike : DifferInRunnables one other) (task : ℕ) where
  pub same_above : tasks_above one task ≡ tasks_above other task
  same_above = λ i. filter (λ above. (alike.cores above i == alike.cores task i) && nat_lt (alike.priorities task i) (alike.priorities above i))
      (range_with_len 0 (alike.count i))

  same_phases : (others : List ℕ) → phases_with one task others ≡ phases_with other task others
  same_phases others = λ i. map (λ above. arrivals_of (alike.patterns above i)) others ++ option_to_list (phase_of (alike.patterns task i))

  same_order : (tasks : List ℕ) → by_period one tasks ≡ by_period other tasks
  unfolding by_period
  same_order tasks = λ i. flat_map (λ period. filter (λ above. is_of_period period (phase_of (alike.patterns above i))) tasks) (range_with_len 1 MOST_TICKS)

  same_joined : (so_far : List ℕ) (above : ℕ) → joined_by one task so_far above ≡ joined_by other task so_far above
  unfolding joined_by
  same_joined so_far above = λ i.
      if nat_le (arrivals_together (same_phases (above ∷ so_far) i)) MOST_IN_CYCLE then above ∷ so_far else so_far

  same_gathered : gathered_above one task ≡ gathered_above other task
  same_gathered = λ i. fold (λ so_far above. same_joined so_far above i) [] (same_order (same_above i) i)

  same_work : (in_phase : List ℕ) → work_with one task in_phase ≡ work_with other task in_phase
  same_work in_phase = λ i. arrivals_together (same_phases in_phase i)
      * sum_by (λ above. most_releases (alike.patterns above i) (alike.deadlines task i)) (filter (λ above. not (is_one_of in_phase above)) (same_above i))

  pub same_in_phase : in_phase_above one task ≡ in_phase_above other task
  unfolding in_phase_above
  same_in_phase = λ i. if nat_le (same_work (same_gathered i) i) MOST_WORK then same_gathered i else []

  pub same_cycle : cycle_of one task ≡ cycle_of other task
  unfolding cycle_of
  same_cycle = λ i. hyperperiod_of (same_phases (same_in_phase i) i)
