-- The tasks above a task of a model, by number, and their phases. Times are in ticks.
use Rattle.std.proofs.Common.{◌≡◌, ℕ, ◌+◌, ◌<◌, ◌≤◌, Bool, true, false, cond, ◌&&◌, ◌==◌, List, length, get_or, take, Option, Some, None, refl, sym, ap, ◌∙◌, arith}
use Rattle.std.specs.Prelude.{All, sum_by, not}
use Rattle.std.specs.List.{filter, range_with_len}
use Rattle.std.proofs.lemmas.Bool.{eq-eqb, ne_eqb}
use Rattle.std.proofs.lemmas.List.Elements.{All-more, All-filter}
use Rattle.std.proofs.lemmas.List.FromFn.{length-range_with_len, get_or-range_with_len}
use Rattle.cl_model.specs.{declared.{model.SystemModel.SystemModel, stimulus.StimulusKind.StimulusKind}, ByNumber.{task_at, core_of, stimulus_of, deadline_of}}
use Rattle.cl_model.proofs.CoreTasks.{below_known}
use Rattle.cl_runs.specs.{TaskTiming.{Timing, timing_at}, SystemOf.{timing_of, system_of}, Priorities.{is_above, tasks_above}}
use Rattle.cl_runs.proofs.ModelSystem.{timing_is, count_is}
use Rattle.cl_stim.specs.{declared.phase.Phase.Phase, Phase.phase_of, Releases.most_releases}
use Rattle.cl_cycle.specs.{Cycles.{is_of_period, is_one_of, released_beside}, Inner.Gathering.{tasks_beside, has_higher, phase_above, is_above_with, AreNoneBetween}}
use Rattle.cl_cycle.proofs.GatheredLists.{filters_agree, filter-both, sums_agree}

-- ---- whether a phase above is of a period

-- a phase of this period
pub has_period : (model : SystemModel) (task period other : ℕ) (phase : Phase) → phase_above model task other ≡ Some phase → phase.period ≡ period
    → is_above_with model task period other ≡ true
has_period model task period other phase is same = ap (is_of_period period) is ∙ eq-eqb phase.period period same

-- a phase of another one
pub has_other_period : (model : SystemModel) (task period other : ℕ) (phase : Phase) → phase_above model task other ≡ Some phase → (phase.period ≡ period → ⊥)
    → is_above_with model task period other ≡ false
has_other_period model task period other phase is apart = ap (is_of_period period) is ∙ ne_eqb phase.period period apart

-- no phase
pub has_no_period : (model : SystemModel) (task period other : ℕ) → phase_above model task other ≡ None → is_above_with model task period other ≡ false
has_no_period model task period other none = ap (is_of_period period) none

-- a task more without a period between
pub none_more : (model : SystemModel) (task after until sooner : ℕ) (others : List ℕ) (i : ℕ) → i < length others → sooner ≤ until
    → AreNoneBetween model task after until (take i others)
    → ((period : ℕ) → after < period → period < sooner → is_above_with model task period (get_or others i 0) ≡ false)
    → AreNoneBetween model task after sooner (take (i + 1) others)
none_more model task after until sooner others i within sooner_is none here =
    All-more (λ other. (period : ℕ) → after < period → period < sooner → is_above_with model task period other ≡ false) others i 0 within
    (λ k d lt period later before. none k d lt period later (omega (arith, before, sooner_is))) here

-- ---- a task of a model

module _ (model : SystemModel) where
  -- its arrivals are those of its stimulus
  pub pattern_is : (other : ℕ) → other < length model.tasks → (timing_at (system_of model) other).pattern ≡ stimulus_of model other
  pattern_is other known = ap (λ (t : Timing). t.pattern) (timing_is model other known)

  -- its deadline
  pub deadline_is : (task : ℕ) → task < length model.tasks → (timing_at (system_of model) task).deadline ≡ deadline_of model task
  deadline_is task known = ap (λ (t : Timing). t.deadline) (timing_is model task known)

  -- the phase of a task above is its own
  pub fixed_above : (task other : ℕ) → other < length model.tasks → (phase : Phase) → phase_above model task other ≡ Some phase
      → phase_of (timing_at (system_of model) other).pattern ≡ Some phase
  fixed_above task other known phase is = ap phase_of (pattern_is other known) ∙ own (has_higher model task other) (phase_of (stimulus_of model other)) is
    where
      own : (higher : Bool) (o : Option Phase) → cond higher o None ≡ Some phase → o ≡ Some phase
      own true o e = e
      own false o e = absurd cc

  -- the tasks of a core are tasks of the model
  pub all_known : (task : ℕ) → All (λ other. other < length model.tasks) (tasks_beside model task)
  all_known task = below_known model (length model.tasks) (core_of model task)

-- ---- the tasks above a task

module _ (model : SystemModel) (task : ℕ) (known : task < length model.tasks) where
  -- a task of the core with a higher priority stands above
  above_alike : (other : ℕ) → other < length model.tasks
      → is_above (timing_at (system_of model) task) (timing_at (system_of model) other) ≡ ((core_of model other == core_of model task) && has_higher model task other)
  above_alike other here =
      ap (λ (t : Timing). is_above t (timing_at (system_of model) other)) (timing_is model task known)
      ∙ ap (is_above (timing_of model (task_at model task))) (timing_is model other here)

  -- those above are those of the core with a higher priority
  pub above_is : tasks_above (system_of model) task ≡ filter (has_higher model task) (tasks_beside model task)
  above_is =
      let above : ℕ → Bool = λ other. is_above (timing_at (system_of model) task) (timing_at (system_of model) other) in
      let all = range_with_len 0 (length model.tasks) in
      ap (λ n. filter above (range_with_len 0 n)) (count_is model)
      ∙ filters_agree above (λ other. (core_of model other == core_of model task) && has_higher model task other) all
      (λ k d lt.
      let within : k < length model.tasks = omega (arith, lt, length-range_with_len 0 (length model.tasks)) in
      above_alike (get_or all k d) (omega (arith, within, get_or-range_with_len 0 (length model.tasks) k d within)))
      ∙ filter-both (λ other. core_of model other == core_of model task) (has_higher model task) all

  -- those of a period
  pub of_period_is : (period : ℕ) → filter (λ other. is_of_period period (phase_of (timing_at (system_of model) other).pattern)) (tasks_above (system_of model) task)
      ≡ filter (is_above_with model task period) (tasks_beside model task)
  of_period_is period =
      let of_timing : ℕ → Bool = λ other. is_of_period period (phase_of (timing_at (system_of model) other).pattern) in
      let of_kind : ℕ → Bool = λ other. is_of_period period (phase_of (stimulus_of model other)) in
      let beside = tasks_beside model task in
      ap (filter of_timing) above_is
      ∙ filters_agree of_timing of_kind (filter (has_higher model task) beside)
      (λ k d lt. ap (λ (kind : StimulusKind). is_of_period period (phase_of kind))
      (pattern_is model _ (All-filter (has_higher model task) (λ other. other < length model.tasks) beside (all_known model task) k d lt)))
      ∙ sym (filter-both (has_higher model task) of_kind beside)
      ∙ filters_agree (λ other. has_higher model task other && of_kind other) (is_above_with model task period) beside
      (λ k d lt. both (has_higher model task (get_or beside k d)) (phase_of (stimulus_of model (get_or beside k d))))
    where
      both : (higher : Bool) (o : Option Phase) → (higher && is_of_period period o) ≡ is_of_period period (cond higher o None)
      both true o = refl
      both false o = refl

  -- the most releases beside those in phase
  pub released_is : (in_phase : List ℕ) → released_beside (system_of model) task in_phase
      ≡ sum_by (λ other. most_releases (stimulus_of model other) (deadline_of model task))
      (filter (λ other. has_higher model task other && not (is_one_of in_phase other)) (tasks_beside model task))
  released_is in_phase =
      let other_is : ℕ → Bool = λ other. not (is_one_of in_phase other) in
      let beside = tasks_beside model task in
      let by_timing : ℕ → ℕ = λ other. most_releases (timing_at (system_of model) other).pattern (timing_at (system_of model) task).deadline in
      let by_number : ℕ → ℕ = λ other. most_releases (stimulus_of model other) (deadline_of model task) in
      ap (λ others. sum_by by_timing (filter other_is others)) above_is
      ∙ ap (sum_by by_timing) (sym (filter-both (has_higher model task) other_is beside))
      ∙ sums_agree by_timing by_number (filter (λ other. has_higher model task other && other_is other) beside)
      (λ k d lt.
      let here = All-filter (λ other. has_higher model task other && other_is other) (λ other. other < length model.tasks) beside (all_known model task) k d lt in
      ap (λ (kind : StimulusKind). most_releases kind (timing_at (system_of model) task).deadline) (pattern_is model _ here)
      ∙ ap (most_releases (stimulus_of model _)) (deadline_is model task known))
