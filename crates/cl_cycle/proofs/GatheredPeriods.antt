-- Tasks are gathered by their periods, the least first; periods that no task has are skipped. Times
-- are in ticks.
use Rattle.std.proofs.Common.{◌≡◌, ℕ, suc, ◌+◌, ◌-◌, ◌<◌, ◌≤◌, Bool, false, true≢false, cond, ◌==◌, nat_lt, subst, List, [], ◌++◌, length, get_or, Option, Some, None, refl, sym, ap, ◌∙◌, arith}
use Rattle.std.specs.List.{filter, fold, flat_map, range_with_len}
use Rattle.std.proofs.lemmas.Bool.{eq-eqb}
use Rattle.std.proofs.lemmas.Bool.Decides.{nat_tests}
use Rattle.std.proofs.lemmas.List.Sums.{fold-append, length-filter, count_by-le-length}
use Rattle.arrayvec.specs.ArrayVec.{array_vec_len}
use Rattle.cl_model.specs.{declared.{limits.TheConstants.{MOST_TICKS, MOST_TASKS_OF_CORE}, model.SystemModel.SystemModel}, ByNumber.core_of, Validity.IsValid}
use Rattle.cl_model.proofs.CoreTasks.{few_tasks}
use Rattle.cl_runs.specs.{TaskTiming.timing_at, SystemOf.system_of, Priorities.tasks_above}
use Rattle.cl_stim.specs.{declared.phase.Phase.Phase, Phase.phase_of}
use Rattle.cl_cycle.specs.{declared.cycle.Cycle.Cycle, Cycles.{by_period, joined_by, gathered_above, is_of_period}, Inner.Gathering.{tasks_beside, phase_above, is_above_with, AreNoneBetween, IsNextPeriod, IsGathered}}
use Rattle.cl_cycle.proofs.{GatheredLists.{filter_none, lengths_apart, flat_maps_agree, flat_map_beyond}, GatheredNumbers.of_period_is}

-- ---- the order

module _ (model : SystemModel) (task : ℕ) where
  -- those above of a period
  abbrev pub above_with : (period : ℕ) → List ℕ
  above_with period = filter (is_above_with model task period) (tasks_beside model task)

  -- those above of the periods after one, up to the greatest
  unfoldable pub above_after : (most period : ℕ) → List ℕ
  above_after most period = flat_map above_with (range_with_len (period + 1) (most - period))

  -- none is of a period that lies between
  none_with : (after until period : ℕ) → AreNoneBetween model task after until (tasks_beside model task) → after < period → period < until → above_with period ≡ []
  none_with after until period none later before =
      filter_none (is_above_with model task period) (tasks_beside model task) (λ k d lt. none k d lt period later before)

  -- first come those of the next period
  pub after_more : (most after next : ℕ) → after < next → next ≤ most → AreNoneBetween model task after next (tasks_beside model task)
      → above_after most after ≡ above_with next ++ above_after most next
  unfolding above_after
  after_more most after next later few none =
      let more : (most - next) + 1 ≡ suc (most - next) = omega arith in
      flat_map_beyond above_with (next - (after + 1)) (after + 1) (most - after) next ((most - next) + 1) (omega (arith, later)) (omega (arith, later, few))
      (λ period from before. none_with after next period none (omega (arith, from)) before)
      ∙ ap (λ n. flat_map above_with (range_with_len next n)) more

  -- without a next period there are none
  pub after_none : (most after : ℕ) → after ≤ most → AreNoneBetween model task after (most + 1) (tasks_beside model task) → above_after most after ≡ []
  unfolding above_after
  after_none most after few none =
      flat_map_beyond above_with (most - after) (after + 1) (most - after) (most + 1) 0 (omega (arith, few)) (omega arith)
      (λ period from before. none_with after (most + 1) period none (omega (arith, from)) before)

  module _ (known : task < length model.tasks) where
    -- from the first period on these are all, in their order
    pub by_period_is : by_period (system_of model) (tasks_above (system_of model) task) ≡ above_after MOST_TICKS 0
    unfolding by_period above_after
    by_period_is =
        flat_maps_agree
        (λ period. filter (λ other. is_of_period period (phase_of (timing_at (system_of model) other).pattern)) (tasks_above (system_of model) task))
        above_with (of_period_is model task known) (range_with_len 1 MOST_TICKS)

    -- none has joined yet
    pub first_periods : fold (joined_by (system_of model) task) [] (above_after MOST_TICKS 0) ≡ gathered_above (system_of model) task
    first_periods = ap (fold (joined_by (system_of model) task) []) (sym by_period_is)

  -- those of the next period join
  pub next_periods : (so_far gathered : List ℕ) (after next : ℕ) → IsNextPeriod model task after next
      → fold (joined_by (system_of model) task) so_far (above_after MOST_TICKS after) ≡ gathered
      → fold (joined_by (system_of model) task) (fold (joined_by (system_of model) task) so_far (above_with next)) (above_after MOST_TICKS next) ≡ gathered
  next_periods so_far gathered after next is before =
      sym (fold-append (joined_by (system_of model) task) so_far (above_with next) (above_after MOST_TICKS next))
      ∙ ap (fold (joined_by (system_of model) task) so_far) (sym (after_more MOST_TICKS after next is.later is.few is.none_between)) ∙ before

  -- no more do
  pub last_periods : (so_far gathered : List ℕ) (after : ℕ) → after ≤ MOST_TICKS → AreNoneBetween model task after (MOST_TICKS + 1) (tasks_beside model task)
      → fold (joined_by (system_of model) task) so_far (above_after MOST_TICKS after) ≡ gathered → so_far ≡ gathered
  last_periods so_far gathered after few none before =
      ap (fold (joined_by (system_of model) task) so_far) (sym (after_none MOST_TICKS after few none)) ∙ before

-- ---- how many can still join

-- whether a phase has a period after one
abbrev pub is_later : (after : ℕ) → Option Phase → Bool
is_later after (Some phase) = nat_lt after phase.period
is_later after None = false

abbrev pub later_above : SystemModel → (task after : ℕ) → List ℕ
later_above model task after = filter (λ other. is_later after (phase_above model task other)) (tasks_beside model task)

module _ (model : SystemModel) (task : ℕ) where
  -- each either is of the next period or comes later still
  later_more : (after next : ℕ) → IsNextPeriod model task after next
      → length (later_above model task after) ≡ length (above_with model task next) + length (later_above model task next)
  later_more after next is =
      lengths_apart (λ other. is_later after (phase_above model task other)) (is_above_with model task next)
      (λ other. is_later next (phase_above model task other)) (tasks_beside model task)
      (λ k d lt. split (phase_above model task (get_or (tasks_beside model task) k d)) (is.none_between k d lt))
    where
      numbers : (period : ℕ) → (after < period → period < next → ⊥) → after < next
          → cond (nat_lt after period) 1 0 ≡ cond (period == next) 1 0 + cond (nat_lt next period) 1 0
      numbers period none less = grind (arith, nat_tests)

      split : (o : Option Phase) → ((period : ℕ) → after < period → period < next → is_of_period period o ≡ false)
          → cond (is_later after o) 1 0 ≡ cond (is_of_period next o) 1 0 + cond (is_later next o) 1 0
      split None none = omega arith
      split (Some phase) none =
          numbers phase.period (λ later before. true≢false (sym (eq-eqb phase.period phase.period refl) ∙ none phase.period later before)) is.later

  -- at the start, all that stand above
  pub room_first : IsValid model → (cycle : Cycle) → array_vec_len cycle.in_phase ≡ 0
      → array_vec_len cycle.in_phase + length (later_above model task 0) ≤ MOST_TASKS_OF_CORE
  room_first valid cycle empty =
      omega (
        arith,
        empty,
        few_tasks model valid (core_of model task),
        length-filter (λ other. is_later 0 (phase_above model task other)) (tasks_beside model task),
        count_by-le-length (λ other. is_later 0 (phase_above model task other)) (tasks_beside model task),
      )

  module _ (old new : Cycle) (after next : ℕ) (is : IsNextPeriod model task after next)
      (room : array_vec_len old.in_phase + length (later_above model task after) ≤ MOST_TASKS_OF_CORE) where
    -- those of the next period fit
    pub room_now : array_vec_len old.in_phase + length (above_with model task next) ≤ MOST_TASKS_OF_CORE
    room_now = omega (arith, room, later_more after next is)

    -- and those after them still do
    pub room_next : array_vec_len new.in_phase ≤ array_vec_len old.in_phase + length (above_with model task next)
        → array_vec_len new.in_phase + length (later_above model task next) ≤ MOST_TASKS_OF_CORE
    room_next more = omega (arith, room, more, later_more after next is)

-- ---- what has been gathered up to a period

-- what is gathered of the later periods on top of it gives all that is gathered
pub record IsGatheredUpTo (model : SystemModel) (task period : ℕ) (cycle : Cycle) : Type 0 where
  pub so_far : List ℕ
  pub are : IsGathered (system_of model) task so_far cycle
  pub rest : fold (joined_by (system_of model) task) so_far (above_after model task MOST_TICKS period) ≡ gathered_above (system_of model) task

module _ (model : SystemModel) (task : ℕ) where
  -- at the start nothing is gathered
  pub gathered_first : task < length model.tasks → (cycle : Cycle) → IsGathered (system_of model) task [] cycle → IsGatheredUpTo model task 0 cycle
  gathered_first known cycle are = record { so_far = []; are = are; rest = first_periods model task known }

  -- then what is gathered of the next period
  pub gathered_next : (old new : Cycle) (after next : ℕ) → IsNextPeriod model task after next → (upto : IsGatheredUpTo model task after old)
      → IsGathered (system_of model) task (fold (joined_by (system_of model) task) upto.so_far (above_with model task next)) new
      → IsGatheredUpTo model task next new
  gathered_next old new after next is upto are = record {
    so_far = fold (joined_by (system_of model) task) upto.so_far (above_with model task next);
    are = are;
    rest = next_periods model task upto.so_far (gathered_above (system_of model) task) after next is upto.rest;
  }

  -- in the end all
  pub gathered_last : (cycle : Cycle) (after : ℕ) → after ≤ MOST_TICKS → AreNoneBetween model task after (MOST_TICKS + 1) (tasks_beside model task)
      → IsGatheredUpTo model task after cycle → IsGathered (system_of model) task (gathered_above (system_of model) task) cycle
  gathered_last cycle after few none upto =
      subst (λ (list : List ℕ). IsGathered (system_of model) task list cycle)
      (last_periods model task upto.so_far (gathered_above (system_of model) task) after few none upto.rest) upto.are
