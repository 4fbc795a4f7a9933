-- The tasks in phase have fixed arrivals, and these come round with the cycle. Times are in ticks.
use Rattle.std.proofs.Common.{◌≡◌, ℕ, ◌<◌, ◌≤◌, Bool, true, false, cond, ◌==◌, nat_le, List, [], ◌∷◌, length, get_or, map, Option, Some, None, refl, sym, ap, ◌∙◌, subst, arith, inl, inr}
use Rattle.std.specs.Prelude.{All, Contains, unwrap_or}
use Rattle.std.specs.Int.{◌∣◌}
use Rattle.std.specs.List.{filter, fold, flat_map, range_with_len}
use Rattle.std.specs.Option.{option_to_list}
use Rattle.std.proofs.lemmas.Bool.{cases_lt, eqb-true, false≢true}
use Rattle.std.proofs.lemmas.Nat.{mul-le}
use Rattle.std.proofs.lemmas.List.{length-map, get_or-map}
use Rattle.std.proofs.lemmas.List.Elements.{All-nil, All-cons, All-head, All-tail, All-append, All-map, All-filter, All-weaker, All-contains, Contains-append_left, Contains-append_right, filter_passes}
use Rattle.std.proofs.lemmas.List.Folds.{Any-from_list_any}
use Rattle.std.proofs.lemmas.List.FromFn.{length-range_with_len, get_or-range_with_len}
use Rattle.std.proofs.Math.Nat.{one-dvd}
use Rattle.cl_model.specs.declared.{limits.TheConstants.MOST_TICKS, stimulus.StimulusKind.{StimulusKind, TheVariants.{Periodic, Sporadic, Burst}}}
use Rattle.cl_runs.specs.{Pattern.IsPattern, TaskTiming.{System, IsSound, timing_at}, Priorities.{is_above, tasks_above}}
use Rattle.cl_stim.specs.{declared.phase.Phase.Phase, Phase.phase_of}
use Rattle.cl_stim.proofs.Hyperperiods.{HasPeriod, Divides, hyperperiod_positive, hyperperiod_divided}
use Rattle.cl_cycle.specs.{declared.cycle.TheConstants.{MOST_IN_CYCLE, MOST_WORK}, Counts.{each_moment, arrivals_of}, Cycles.{phases_with, arrivals_together, is_of_period, by_period, joined_by, gathered_above, is_one_of, work_with, in_phase_above, cycle_of}, Promises.ComesRound}
use Rattle.cl_cycle.proofs.GatheredSteps.{joins_with_few, stays_with_many}

-- a task of the system whose arrivals are fixed
pub record IsFixed (system : System) (other : ℕ) : Type 0 where
  pub known : other < length system.tasks
  pub phase : Phase
  pub fixed : phase_of (timing_at system other).pattern ≡ Some phase

-- ---- what holds of each list that is gathered

module _ (system : System) (task : ℕ) (P : List ℕ → Type 0) where
  -- whether the next task joins or not
  joined_keeps : (so_far : List ℕ) (other : ℕ) → P so_far
      → (arrivals_together (phases_with system task (other ∷ so_far)) ≤ MOST_IN_CYCLE → P (other ∷ so_far)) → P (joined_by system task so_far other)
  joined_keeps so_far other before with_it = elim (cases_lt MOST_IN_CYCLE (arrivals_together (phases_with system task (other ∷ so_far)))) [
    | inl many ↦ subst P (sym (stays_with_many system task so_far other many)) before
    | inr few ↦ subst P (sym (joins_with_few system task so_far other few)) (with_it few)
  ]

  -- so with one task after the other
  pub fold_keeps : (Q : ℕ → Type 0)
      → ((so_far : List ℕ) (other : ℕ) → Q other → P so_far → arrivals_together (phases_with system task (other ∷ so_far)) ≤ MOST_IN_CYCLE → P (other ∷ so_far))
      → (others : List ℕ) → All Q others → (so_far : List ℕ) → P so_far → P (fold (joined_by system task) so_far others)
  fold_keeps Q step [] all so_far before = before
  fold_keeps Q step (other ∷ others) all so_far before =
      fold_keeps Q step others (All-tail Q other others all) (joined_by system task so_far other)
      (joined_keeps so_far other before (step so_far other (All-head Q other others all) before))

  -- and so of those in phase, which are those gathered, or none
  pub in_phase_keeps : P [] → P (gathered_above system task) → P (in_phase_above system task)
  unfolding in_phase_above
  in_phase_keeps none gathered = chosen (nat_le (work_with system task (gathered_above system task)) MOST_WORK)
    where
      chosen : (little : Bool) → P (cond little (gathered_above system task) [])
      chosen true = gathered
      chosen false = none

-- ---- the arrivals of each are fixed

-- what holds of all that each element gives
all_mapped : {X Y : Type 0} (P : Y → Type 0) (f : X → List Y) → ((x : X) → All P (f x)) → (xs : List X) → All P (flat_map f xs)
all_mapped P f each [] = All-nil P
all_mapped P f each (x ∷ xs) = All-append P (f x) (flat_map f xs) (each x) (all_mapped P f each xs)

module _ (system : System) (task : ℕ) where
  -- the tasks above are tasks of the system
  above_known : All (λ other. other < length system.tasks) (tasks_above system task)
  above_known =
      let all = range_with_len 0 (length system.tasks) in
      All-filter (λ other. is_above (timing_at system task) (timing_at system other)) (λ other. other < length system.tasks) all
      (λ k d lt.
      let within : k < length system.tasks = omega (arith, lt, length-range_with_len 0 (length system.tasks)) in
      omega (arith, within, get_or-range_with_len 0 (length system.tasks) k d within))

  -- a task that has a period has fixed arrivals
  fixed_from : (period other : ℕ) → other < length system.tasks → (o : Option Phase) → phase_of (timing_at system other).pattern ≡ o
      → is_of_period period o ≡ true → IsFixed system other
  fixed_from period other known (Some phase) is passes = record { known = known; phase = phase; fixed = is }
  fixed_from period other known None is passes = absurd (false≢true passes)

  -- so have all that are gone through
  pub all_fixed : All (IsFixed system) (by_period system (tasks_above system task))
  unfolding by_period
  all_fixed =
      all_mapped (IsFixed system) (λ period. filter (λ other. is_of_period period (phase_of (timing_at system other).pattern)) (tasks_above system task))
      (λ period k d lt.
      let test : ℕ → Bool = λ other. is_of_period period (phase_of (timing_at system other).pattern) in
      let known = All-filter test (λ other. other < length system.tasks) (tasks_above system task) above_known k d lt in
      let passes = filter_passes test (tasks_above system task) k d lt in
      fixed_from period (get_or (filter test (tasks_above system task)) k d) known _ refl passes)
      (range_with_len 1 MOST_TICKS)

  -- and all that are gathered
  gathered_fixed : All (IsFixed system) (gathered_above system task)
  gathered_fixed =
      fold_keeps system task (All (IsFixed system)) (IsFixed system) (λ so_far other fixed before few. All-cons (IsFixed system) other so_far fixed before)
      (by_period system (tasks_above system task)) all_fixed [] (All-nil (IsFixed system))

  -- and all in phase
  pub in_phase_fixed : All (IsFixed system) (in_phase_above system task)
  in_phase_fixed = in_phase_keeps system task (All (IsFixed system)) (All-nil (IsFixed system)) gathered_fixed

-- ---- their phases

-- what holds of the phases of others and of its own
pub with_phases : (Q : Phase → Type 0) (system : System) (task : ℕ) (others : List ℕ) → All (λ other. Q (arrivals_of (timing_at system other).pattern)) others
    → ((phase : Phase) → phase_of (timing_at system task).pattern ≡ Some phase → Q phase) → All Q (phases_with system task others)
with_phases Q system task others each own =
    All-append Q (map (λ other. arrivals_of (timing_at system other).pattern) others) (option_to_list (phase_of (timing_at system task).pattern))
    (All-map Q (λ other. arrivals_of (timing_at system other).pattern) others each) (listed (phase_of (timing_at system task).pattern) own)
  where
    listed : (o : Option Phase) → ((phase : Phase) → o ≡ Some phase → Q phase) → All Q (option_to_list o)
    listed None holds = All-nil Q
    listed (Some phase) holds = All-cons Q phase [] (holds phase refl) (All-nil Q)

-- each pattern has a period
pattern_has_period : (kind : StimulusKind) → IsPattern kind → HasPeriod (arrivals_of kind)
pattern_has_period (Periodic period offset jitter) is = is
pattern_has_period (Sporadic least greatest) is = omega arith
pattern_has_period (Burst period offset count distance) is = omega (arith, is.2, mul-le 1 1 count distance is.0 is.1)

module _ (system : System) (sound : IsSound system) (task : ℕ) (known : task < length system.tasks) where
  -- each task has a period
  has_period : (other : ℕ) → other < length system.tasks → HasPeriod (arrivals_of (timing_at system other).pattern)
  has_period other within = pattern_has_period (timing_at system other).pattern (sound.tasks other within).pattern

  -- so have all phases of a cycle
  pub have_periods : (others : List ℕ) → All (IsFixed system) others → All HasPeriod (phases_with system task others)
  have_periods others fixed =
      with_phases HasPeriod system task others
      (All-weaker (IsFixed system) (λ other. HasPeriod (arrivals_of (timing_at system other).pattern)) (λ other is. has_period other is.known) others fixed)
      (λ phase is. subst (λ (o : Option Phase). HasPeriod (unwrap_or o each_moment)) is (has_period task known))

  -- ---- they come round with the cycle

  -- a cycle has a tick or more
  pub cycle_positive : 1 ≤ cycle_of system task
  unfolding cycle_of
  cycle_positive = hyperperiod_positive (phases_with system task (in_phase_above system task)) (have_periods (in_phase_above system task) (in_phase_fixed system task))

  -- each period divides the cycle
  all_divide : All (Divides (cycle_of system task)) (phases_with system task (in_phase_above system task))
  unfolding cycle_of
  all_divide = hyperperiod_divided (phases_with system task (in_phase_above system task)) (have_periods (in_phase_above system task) (in_phase_fixed system task))

  -- that of the task itself too
  pub own_divides : (arrivals_of (timing_at system task).pattern).period ∣ cycle_of system task
  own_divides = by (phase_of (timing_at system task).pattern) refl
    where
      by : (o : Option Phase) → o ≡ phase_of (timing_at system task).pattern → (unwrap_or o each_moment).period ∣ cycle_of system task
      by None is = one-dvd (cycle_of system task)
      by (Some phase) is =
          All-contains (Divides (cycle_of system task)) (phases_with system task (in_phase_above system task)) phase all_divide
          (Contains-append_right (map (λ other. arrivals_of (timing_at system other).pattern) (in_phase_above system task))
          (option_to_list (phase_of (timing_at system task).pattern)) phase
          (subst (λ (o : Option Phase). Contains (option_to_list o) phase) is (0, omega arith, refl)))

  -- a task that is one of some is in their list
  found_in : (tasks : List ℕ) (other : ℕ) → is_one_of tasks other ≡ true → Contains tasks other
  found_in tasks other is =
      let found = Any-from_list_any (λ one. one == other) tasks is in
      subst (λ one. Contains tasks one) (eqb-true found.1 other found.4) (found.0, found.2, found.3)

  -- and its arrivals are among theirs
  mapped_in : (tasks : List ℕ) (other : ℕ) → Contains tasks other
      → Contains (map (λ one. arrivals_of (timing_at system one).pattern) tasks) (arrivals_of (timing_at system other).pattern)
  mapped_in tasks other contains =
      let arrivals : ℕ → Phase = λ one. arrivals_of (timing_at system one).pattern in (
        contains.0,
        omega (arith, contains.1, length-map tasks arrivals),
        get_or-map arrivals tasks contains.0 other (arrivals other) contains.1 ∙ ap arrivals contains.2,
      )

  -- so each task in phase comes round
  pub members_come_round : (other : ℕ) → is_one_of (in_phase_above system task) other ≡ true → ComesRound system (cycle_of system task) other
  members_come_round other is =
      let contains = found_in (in_phase_above system task) other is in
      let fixed = All-contains (IsFixed system) (in_phase_above system task) other (in_phase_fixed system task) contains in
      let divides = All-contains (Divides (cycle_of system task)) (phases_with system task (in_phase_above system task)) (arrivals_of (timing_at system other).pattern) all_divide
      (Contains-append_left (map (λ one. arrivals_of (timing_at system one).pattern) (in_phase_above system task))
      (option_to_list (phase_of (timing_at system task).pattern)) (arrivals_of (timing_at system other).pattern) (mapped_in (in_phase_above system task) other contains)) in
      record {
        phase = fixed.phase;
        fixed = fixed.fixed;
        divides = subst (λ (o : Option Phase). (unwrap_or o each_moment).period ∣ cycle_of system task) fixed.fixed divides;
      }
