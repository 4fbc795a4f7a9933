-- The tasks above a task of a valid model by number, those that are in phase and the others.
use Rattle.std.proofs.Common.{◌≡◌, ℕ, ◌<◌, Bool, true, false, ◌&&◌, List, length, map, sym, ap, ◌∙◌, arith}
use Rattle.std.specs.Prelude.{All, ◌==◌}
use Rattle.std.specs.List.{filter, range_with_len}
use Rattle.std.proofs.lemmas.List.Elements.{All-filter}
use Rattle.cl_model.specs.{declared.model.SystemModel.SystemModel, ByNumber.{task_at, core_of, jitter_of, time_of, tasks_of_core}, Timing.greatest_jitter}
use Rattle.cl_model.specs.ByNumber as tasks
use Rattle.cl_model.proofs.{AddedTasks.maps_agree_on, CoreTasks.below_known, MovedTasks.filter_range}
use Rattle.cl_runs.specs.{TaskTiming.{Timing, timing_at}, SystemOf.{timing_of, system_of}, Priorities.{is_above, tasks_above}, ExecutionTimes.greatest_execution}
use Rattle.cl_runs.proofs.ModelSystem.{timing_is, count_is}
use Rattle.cl_cycle.specs.Counts.{arrivals_of}
use Rattle.cl_resp.specs.{declared.{question.Above.Above, phased.InPhase.InPhase}, Question.taken_by, Inner.Counted.{counts_in_phase, counted_above, by_phase_of, in_phase_with, beside_with}}
use Rattle.cl_resp.proofs.{Filters.filter-both, Questions.{is_higher, above_at, numbers_above, time_is, taken_is}}

-- whether another task has a higher priority and is in phase, or isn't, by number
abbrev pub is_counted : SystemModel → (in_phase : Bool) → (cycle : List ℕ) → (task other : ℕ) → Bool
is_counted model in_phase cycle task other = is_higher model task other && counts_in_phase in_phase cycle other

-- a task as it counts_in_phase by its phase, by number
abbrev pub by_phase_at : SystemModel → (other : ℕ) → InPhase
by_phase_at model other = record {
  phase = arrivals_of (tasks.stimulus_of model other);
  jitter = jitter_of model other;
  time = time_of model other;
}

module _ (model : SystemModel) where
  -- the numbers of the tasks above a task, and that each is that of a task
  pub numbers_are : (i : ℕ) → i < length model.tasks → numbers_above model i ≡ tasks_above (system_of model) i
  numbers_are i h =
      let all = range_with_len 0 (length model.tasks) in
      let above : ℕ → Bool = λ j. is_above (timing_at (system_of model) i) (timing_at (system_of model) j) in
      sym (filter-both (λ j. core_of model j == core_of model i) (is_higher model i) all)
      ∙ filter_range (λ j. (core_of model j == core_of model i) && is_higher model i j) above 0 (length model.tasks)
      (λ j _ below. sym (ap (λ task. is_above task (timing_at (system_of model) j)) (timing_is model i h)
      ∙ ap (is_above (timing_of model (task_at model i))) (timing_is model j (omega (arith, below)))))
      ∙ ap (λ n. filter above (range_with_len 0 n)) (sym (count_is model))

  pub numbers_known : (i : ℕ) → All (λ j. j < length model.tasks) (numbers_above model i)
  numbers_known i = All-filter (is_higher model i) (λ j. j < length model.tasks) (tasks_of_core model (core_of model i))
      (below_known model (length model.tasks) (core_of model i))

  module _ (in_phase : Bool) (cycle : List ℕ) (i : ℕ) (h : i < length model.tasks) where
    -- those that count so
    pub counted_are : filter (is_counted model in_phase cycle i) (tasks_of_core model (core_of model i)) ≡ counted_above (system_of model) in_phase cycle i
    counted_are = filter-both (is_higher model i) (counts_in_phase in_phase cycle) (tasks_of_core model (core_of model i))
        ∙ ap (filter (counts_in_phase in_phase cycle)) (numbers_are i h)

    pub counted_known : All (λ j. j < length model.tasks) (filter (is_counted model in_phase cycle i) (tasks_of_core model (core_of model i)))
    counted_known = All-filter (is_counted model in_phase cycle i) (λ j. j < length model.tasks) (tasks_of_core model (core_of model i))
        (below_known model (length model.tasks) (core_of model i))

  by_phase_is : (j : ℕ) → j < length model.tasks → by_phase_at model j ≡ by_phase_of (system_of model) j
  by_phase_is j known =
      let of : Timing → InPhase = λ timing. record { phase = arrivals_of timing.pattern; jitter = greatest_jitter timing.pattern; time = greatest_execution timing } in
      sym (ap of (timing_is model j known)
      ∙ ap (λ time. record { phase = arrivals_of (tasks.stimulus_of model j); jitter = jitter_of model j; time = time }) (time_is model j))

  above_with : (j : ℕ) → j < length model.tasks → above_at model j ≡ taken_by (timing_at (system_of model) j)
  above_with j known = sym (ap taken_by (timing_is model j known) ∙ taken_is model j)

  pub in_phase_is : (cycle : List ℕ) (i : ℕ) → i < length model.tasks
      → map (by_phase_at model) (filter (is_counted model true cycle i) (tasks_of_core model (core_of model i))) ≡ in_phase_with (system_of model) cycle i
  in_phase_is cycle i h =
      let numbers = filter (is_counted model true cycle i) (tasks_of_core model (core_of model i)) in
      maps_agree_on (by_phase_at model) (by_phase_of (system_of model)) numbers (λ k d lt. by_phase_is _ (counted_known true cycle i h k d lt))
      ∙ ap (map (by_phase_of (system_of model))) (counted_are true cycle i h)

  pub beside_is : (cycle : List ℕ) (i : ℕ) → i < length model.tasks
      → map (above_at model) (filter (is_counted model false cycle i) (tasks_of_core model (core_of model i))) ≡ beside_with (system_of model) cycle i
  beside_is cycle i h =
      let numbers = filter (is_counted model false cycle i) (tasks_of_core model (core_of model i)) in
      let taken : ℕ → Above = λ j. taken_by (timing_at (system_of model) j) in
      maps_agree_on (above_at model) taken numbers (λ k d lt. above_with _ (counted_known false cycle i h k d lt))
      ∙ ap (map taken) (counted_are false cycle i h)
