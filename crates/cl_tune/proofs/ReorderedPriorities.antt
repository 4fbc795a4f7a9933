-- The best priorities of the tasks of a model: they are in range, those of tasks of one core differ, and deadlines span
-- few least distances of tasks that they put above.
use Rattle.std.proofs.Common.{◌≡◌, ℕ, ◌<◌, ◌≤◌, false, nat_lt, List, length, refl, sym, ap, ◌∙◌, arith}
use Rattle.std.specs.Prelude.{◌==◌, slice_index}
use Rattle.std.proofs.lemmas.Bool.{eq-eqb, lt-ltb, and_from}
use Rattle.std.proofs.lemmas.List.Sorted.{length_permutation}
use Rattle.cl_model.specs.{declared.{limits.TheConstants.MOST_PRIORITY, model.SystemModel.SystemModel, stimulus.StimulusKind.StimulusKind}, ByNumber.{core_of, stimulus_of, deadline_of, tasks_of_core}, Validity.IsValid, ValidTasks.spans_too_many}
use Rattle.cl_model.proofs.CoreTasks.{few_tasks}
use Rattle.cl_runs.specs.{SystemOf.system_of, TaskTiming.{Timing, timing_at}, Priorities.is_above}
use Rattle.cl_runs.proofs.ModelSystem.{count_is}
use Rattle.cl_tune.specs.{BestOrders.AreBestPriorities, Priorities.with_all_priorities}
use Rattle.cl_tune.proofs.{NewPriorities.{timing_with, has_priorities}, OrdersTogether.{order_at, in_order_at, pass_together}, Priorities.{priority_few, priorities_apart}, Timings.{core_is, pattern_is, deadline_is}}

module _ (model : SystemModel) (valid : IsValid model) (priorities : List ℕ) (best : AreBestPriorities model priorities) where
  abbrev given : (task : ℕ) → ℕ
  given task = slice_index priorities task

  abbrev order : (task : ℕ) → task < length model.tasks → List ℕ
  order task h = (order_at model valid priorities best task h).order

  pub distinct : (i j : ℕ) → i < length model.tasks → j < length model.tasks → core_of model i ≡ core_of model j → given i ≡ given j → i ≡ j
  distinct i j hi hj cores same =
      let is = order_at model valid priorities best j hj in
      priorities_apart (order j hj) i j
      (in_order_at model valid priorities best j hj i hi cores)
      (in_order_at model valid priorities best j hj j hj refl)
      (sym (is.given i hi cores) ∙ same ∙ is.given j hj refl)

  pub in_range : (i : ℕ) → i < length model.tasks → given i ≤ MOST_PRIORITY
  in_range i h =
      let is = order_at model valid priorities best i h in
      omega (
        arith,
        is.given i h refl,
        priority_few (order i h) i (in_order_at model valid priorities best i h i h refl),
        length_permutation (tasks_of_core model (core_of model i)) (order i h) is.best.passing.tasks,
        few_tasks model valid (core_of model i),
      )

  pub spans_few : (i j : ℕ) → i < length model.tasks → j < length model.tasks → core_of model j ≡ core_of model i → given i < given j
      → spans_too_many (deadline_of model i) (stimulus_of model j) ≡ false
  spans_few i j hi hj cores higher =
      let system = system_of model in
      let with = system_of (with_all_priorities model given) in
      let has = has_priorities model given in
      let one = has.each i (omega (arith, hi, count_is model)) in
      let other = has.each j (omega (arith, hj, count_is model)) in
      ap (λ n. spans_too_many n (stimulus_of model j)) (sym (ap (λ (t : Timing). t.deadline) one ∙ deadline_is model i hi))
      ∙ ap (λ (k : StimulusKind). spans_too_many (timing_at with i).deadline k) (sym (ap (λ (t : Timing). t.pattern) other ∙ pattern_is model j hj))
      ∙ (pass_together model valid priorities best i hi).few_distances j (omega (arith, hj, count_is model, has.as_many))
      (ap (λ (t : Timing). is_above t (timing_at with j)) one
      ∙ ap (λ (t : Timing). is_above (timing_with system given i) t) other
      ∙ and_from ((timing_at system j).core == (timing_at system i).core) (nat_lt (given i) (given j))
      (eq-eqb _ _ (core_is model j hj ∙ cores ∙ sym (core_is model i hi))) (lt-ltb _ _ higher))
