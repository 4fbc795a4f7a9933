-- What is asked by the tasks in phase comes round with the cycle of the task.
use Rattle.std.proofs.Common.{◌≡◌, ℕ, ◌+◌, ◌*◌, ◌<◌, ◌≤◌, inl, inr, Bool, true, false, Option, Some, None, unwrap_or, List, [], ◌∷◌, ℤ, pos, ◌+ℤ◌, ◌-ℤ◌, length, refl, sym, ap, ◌∙◌, subst, arith}
use Rattle.std.specs.Prelude.{sum_by}
use Rattle.std.specs.Int.{◌∣◌}
use Rattle.std.proofs.Math.Nat.{eq-zero_of_zero-dvd}
use Rattle.std.proofs.lemmas.Bool.{cases_lt}
use Rattle.std.proofs.lemmas.Int.{ints}
use Rattle.std.proofs.lemmas.List.{get_or_past}
use Rattle.std.proofs.lemmas.List.Sums.{sum_by-cons}
use Rattle.cl_model.specs.{declared.stimulus.StimulusKind.StimulusKind, Timing.greatest_jitter}
use Rattle.cl_runs.specs.{Pattern.IsPattern, TaskTiming.{Timing, System, no_timing, timing_at, IsSound}, Priorities.tasks_above, ExecutionTimes.greatest_execution}
use Rattle.cl_stim.specs.{declared.phase.Phase.Phase, Phase.{IsPhase, phase_of}}
use Rattle.cl_stim.proofs.PatternPhases.{phase_is}
use Rattle.cl_cycle.specs.{Counts.{arrivals_from, each_moment}, Cycles.{is_one_of, in_phase_above, cycle_of}, Promises.ComesRound as TaskComesRound}
use Rattle.cl_cycle.proofs.{CountedTicks.comes_round as arrivals_come_round, CycleMembers.{cycle_positive, own_divides, members_come_round}}
use Rattle.cl_resp.specs.{Asked.AskedComesRound, ByPhase.{phase_if, released_by, time_by, demand_by, asked_by_phase}, Question.lower_block_of}

-- what each adds is the same, and so is the sum
same_sums : {X : Type 0} (f g : X → ℕ) (xs : List X) → ((x : X) → f x ≡ g x) → sum_by f xs ≡ sum_by g xs
same_sums f g [] same = refl
same_sums f g (x ∷ xs) same = omega (arith, sum_by-cons f x xs, sum_by-cons g x xs, same x, same_sums f g xs same)

-- ---- the phases of tasks

arrivals_come : (kind : StimulusKind) → IsPattern kind → (phase : Option Phase) → phase_of kind ≡ phase → IsPhase (unwrap_or phase each_moment)
arrivals_come kind well (Some phase) is = phase_is kind phase is well
arrivals_come kind well None is = record { some = omega arith; apart = omega arith; fits = omega arith }

none_past : (phase : Phase) → phase_of no_timing.pattern ≡ Some phase → phase.period ≡ 0
unfolding no_timing
none_past phase is = sym (ap (λ o. (unwrap_or o phase).period) is)

-- a task whose arrivals come round is one of the system, for nothing else has a period
module _ (system : System) (sound : IsSound system) (ticks : ℕ) (some : 1 ≤ ticks) (other : ℕ) (round : TaskComesRound system ticks other) where
  phase_comes : IsPhase round.phase
  phase_comes = elim (cases_lt other (length system.tasks)) [
    | inl below ↦ phase_is (timing_at system other).pattern round.phase round.fixed (sound.tasks other below).pattern
    | inr past ↦
        let nothing : timing_at system other ≡ no_timing = get_or_past system.tasks other no_timing past in
        let period : round.phase.period ≡ 0 = none_past round.phase (ap (λ (t : Timing). phase_of t.pattern) (sym nothing) ∙ round.fixed) in
        let never : ticks ≡ 0 = eq-zero_of_zero-dvd (subst (λ n. n ∣ ticks) period round.divides) in
        absurd (omega (arith, some, never))
  ]

  commuted : (start : ℤ) (jitter : ℕ) → ((start +ℤ pos ticks) -ℤ pos jitter) ≡ ((start -ℤ pos jitter) +ℤ pos ticks)
  commuted start jitter = omega (arith, ints)

  -- as many of its jobs are released in a window so many ticks later
  released_round : (start : ℤ) (width : ℕ)
      → released_by (phase_of (timing_at system other).pattern) (timing_at system other).pattern (start +ℤ pos ticks) width
      ≡ released_by (phase_of (timing_at system other).pattern) (timing_at system other).pattern start width
  released_round start width =
      let kind = (timing_at system other).pattern in
      let jitter = greatest_jitter kind in
      ap (λ o. released_by o kind (start +ℤ pos ticks) width) round.fixed
      ∙ ap (λ z. arrivals_from round.phase z (width + jitter)) (commuted start jitter)
      ∙ arrivals_come_round round.phase phase_comes ticks round.divides (start -ℤ pos jitter) (width + jitter)
      ∙ ap (λ o. released_by o kind start width) (sym round.fixed)

-- ---- what is asked

module _ (system : System) (sound : IsSound system) (task : ℕ) (is : task < length system.tasks) where
  abbrev cycle : ℕ
  cycle = cycle_of system task

  abbrev in_phase : ℕ → Bool
  in_phase = is_one_of (in_phase_above system task)

  abbrev kind : ℕ → StimulusKind
  kind other = (timing_at system other).pattern

  -- what a task takes is the same, by its phase or without
  time_round : (start : ℤ) (width other : ℕ) → time_by system in_phase (start +ℤ pos cycle) width other ≡ time_by system in_phase start width other
  time_round start width other = ap (λ n. n * greatest_execution (timing_at system other))
      (by_test (in_phase other) (members_come_round system sound task is other))
    where
      by_test : (test : Bool) → (test ≡ true → TaskComesRound system cycle other)
          → released_by (phase_if test (kind other)) (kind other) (start +ℤ pos cycle) width ≡ released_by (phase_if test (kind other)) (kind other) start width
      by_test true round = released_round system sound cycle (cycle_positive system sound task is) other (round refl) start width
      by_test false round = refl

  -- so what is asked of a window is the same a cycle later
  demand_round : (own : ℕ) (start : ℤ) (width : ℕ)
      → demand_by system in_phase task own (start +ℤ pos cycle) width ≡ demand_by system in_phase task own start width
  unfolding demand_by
  demand_round own start width = ap (λ n. lower_block_of system (timing_at system task) + own + n)
      (same_sums (time_by system in_phase (start +ℤ pos cycle) width) (time_by system in_phase start width) (tasks_above system task) (time_round start width))

  pub comes_round : (own : ℕ) → AskedComesRound (asked_by_phase system task own)
  comes_round own = record {
    phase = arrivals_come (timing_at system task).pattern (sound.tasks task is).pattern (phase_of (timing_at system task).pattern) refl;
    some = cycle_positive system sound task is;
    arrivals = own_divides system sound task is;
    demand = demand_round own;
  }

-- in the words of the law
pub asked_comes_round : (system : System) → IsSound system → (task own : ℕ) → task < length system.tasks → AskedComesRound (asked_by_phase system task own)
asked_comes_round system sound task own is = comes_round system sound task is own
