-- The cycle of a task of a valid model is short. Times are in ticks.
use Rattle.std.proofs.Common.{◌≡◌, ℕ, ◌*◌, ◌<◌, ◌≤◌, List, [], ◌∷◌, length, Option, Some, None, refl, sym, subst, arith}
use Rattle.std.specs.Prelude.{All, unwrap_or}
use Rattle.std.specs.Option.{option_to_list}
use Rattle.std.proofs.lemmas.Nat.{mul-le}
use Rattle.std.proofs.lemmas.List.Elements.{All-nil, All-cons, All-head}
use Rattle.std.proofs.lemmas.List.Sums.{sum_by-cons}
use Rattle.cl_model.specs.{declared.{limits.TheConstants.MOST_TICKS, model.SystemModel.SystemModel, stimulus.StimulusKind.{StimulusKind, TheVariants.{Periodic, Sporadic, Burst}}}, Ranges.IsKindInRange, Timing.IsKindOrdered, Validity.IsValid}
use Rattle.cl_model.proofs.ValidTasks.{kind_in_range, kind_ordered}
use Rattle.cl_runs.specs.{TaskTiming.timing_at, Priorities.tasks_above, SystemOf.system_of}
use Rattle.cl_runs.proofs.ModelSystem.{count_is, system_sound}
use Rattle.cl_stim.specs.{declared.phase.Phase.Phase, Phase.{IsPhaseInRange, phase_of, arrivals_in}, Multiples.hyperperiod_of}
use Rattle.cl_stim.proofs.Hyperperiods.{HasPeriod, Divides, hyperperiod_divided}
use Rattle.cl_cycle.specs.{declared.cycle.TheConstants.MOST_IN_CYCLE, Counts.{each_moment, arrivals_of}, Cycles.{phases_with, arrivals_together, by_period, gathered_above, cycle_of}}
use Rattle.cl_cycle.proofs.{GatheredPhases.{none_together, one_together, ticks_by_arrivals}, GatheredNumbers.pattern_is, CycleMembers.{IsFixed, fold_keeps, in_phase_keeps, all_fixed, have_periods}}

-- the arrivals of a stimulus in range are in range
arrivals_in_range : (kind : StimulusKind) → IsKindInRange kind → IsKindOrdered kind → IsPhaseInRange (arrivals_of kind)
arrivals_in_range (Periodic period offset jitter) range ordered = record {
  is_phase = record { some = omega arith; apart = range.0.0; fits = omega arith };
  offset = ordered;
  period = range.0.1;
  count = omega arith;
}
arrivals_in_range (Sporadic least greatest) range ordered = record {
  is_phase = record { some = omega arith; apart = omega arith; fits = omega arith };
  offset = omega arith;
  period = omega arith;
  count = omega arith;
}
arrivals_in_range (Burst period offset count distance) range ordered = record {
  is_phase = record { some = omega (arith, range.2.0); apart = range.3.0; fits = ordered.1 };
  offset = ordered.0;
  period = range.0.1;
  count = range.2.1;
}

-- the period of one of these phases is at most the greatest
short_with_few : (phase : Phase) (phases : List Phase) → IsPhaseInRange phase → All HasPeriod (phase ∷ phases)
    → arrivals_together (phase ∷ phases) ≤ MOST_IN_CYCLE → hyperperiod_of (phase ∷ phases) ≤ MOST_IN_CYCLE * MOST_TICKS
short_with_few phase phases is periods few =
    let ticks = hyperperiod_of (phase ∷ phases) in
    let divides = All-head (Divides ticks) phase phases (hyperperiod_divided (phase ∷ phases) periods) in
    let own : arrivals_in ticks phase ≤ MOST_IN_CYCLE = omega (arith, few, sum_by-cons (arrivals_in ticks) phase phases) in
    omega (arith, ticks_by_arrivals phase is ticks divides, mul-le (arrivals_in ticks phase) MOST_TICKS MOST_IN_CYCLE MOST_TICKS own (omega arith))

-- a task alone comes round within the greatest period
short_alone : (o : Option Phase) → ((phase : Phase) → o ≡ Some phase → IsPhaseInRange phase) → hyperperiod_of (option_to_list o) ≤ MOST_IN_CYCLE * MOST_TICKS
short_alone None in_range = omega (arith, none_together.ticks_are)
short_alone (Some phase) in_range = omega (arith, (one_together phase (in_range phase refl)).ticks_are, (in_range phase refl).period)

module _ (model : SystemModel) (valid : IsValid model) (task : ℕ) (known : task < length model.tasks) where
  -- the arrivals of each task are in range
  in_range : (other : ℕ) → other < length model.tasks → IsPhaseInRange (arrivals_of (timing_at (system_of model) other).pattern)
  in_range other within =
      subst (λ (kind : StimulusKind). IsPhaseInRange (arrivals_of kind)) (sym (pattern_is model other within))
      (arrivals_in_range _ (kind_in_range model valid other within) (kind_ordered model valid other within))

  -- the task is one of the system
  within_system : task < length (system_of model).tasks
  within_system = omega (arith, known, count_is model)

  -- those in phase so far have fixed arrivals and come round soon
  record AreShort (so_far : List ℕ) : Type 0 where
    fixed : All (IsFixed (system_of model)) so_far
    short : hyperperiod_of (phases_with (system_of model) task so_far) ≤ MOST_IN_CYCLE * MOST_TICKS

  -- without a task in phase
  none_short : AreShort []
  none_short = record {
    fixed = All-nil (IsFixed (system_of model));
    short = short_alone (phase_of (timing_at (system_of model) task).pattern)
        (λ phase is. subst (λ (o : Option Phase). IsPhaseInRange (unwrap_or o each_moment)) is (in_range task known));
  }

  -- with one more
  one_more_short : (so_far : List ℕ) (other : ℕ) → IsFixed (system_of model) other → AreShort so_far
      → arrivals_together (phases_with (system_of model) task (other ∷ so_far)) ≤ MOST_IN_CYCLE → AreShort (other ∷ so_far)
  one_more_short so_far other is before few =
      let all = All-cons (IsFixed (system_of model)) other so_far is before.fixed in
      record {
        fixed = all;
        short = short_with_few (arrivals_of (timing_at (system_of model) other).pattern) (phases_with (system_of model) task so_far)
            (in_range other (omega (arith, is.known, count_is model)))
            (have_periods (system_of model) (system_sound model valid) task within_system (other ∷ so_far) all) few;
      }

  -- with all that are gathered
  gathered_short : AreShort (gathered_above (system_of model) task)
  gathered_short =
      fold_keeps (system_of model) task AreShort (IsFixed (system_of model)) one_more_short
      (by_period (system_of model) (tasks_above (system_of model) task)) (all_fixed (system_of model) task) [] none_short

  -- so the cycle is short
  pub cycle_short : cycle_of (system_of model) task ≤ MOST_IN_CYCLE * MOST_TICKS
  unfolding cycle_of
  cycle_short = (in_phase_keeps (system_of model) task AreShort none_short gathered_short).short
