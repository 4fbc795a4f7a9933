-- The best order of a core of a valid model is the one that is filled from the lowest priority upward.
use Rattle.std.proofs.Common.{◌≡◌, ℕ, ◌<◌, Bool, true, Option, Some, None, List, length, refl, sym, ◌∙◌, subst, arith}
use Rattle.std.specs.Prelude.{All, ◌==◌}
use Rattle.std.specs.List.{range_with_len}
use Rattle.std.specs.List.Sorted.{IsPermutation}
use Rattle.std.proofs.lemmas.Bool.{eqb-true, eq-eqb, and_parts, and_from}
use Rattle.cl_model.specs.{declared.model.SystemModel.SystemModel, ByNumber.{core_of, tasks_of_core}, Validity.IsValid}
use Rattle.cl_runs.specs.{Pattern.IsPattern, SystemOf.system_of, TaskTiming.{System, timing_at}}
use Rattle.cl_runs.proofs.ModelSystem.{count_is, system_sound}
use Rattle.cl_tune.specs.{BestOrders.{IsBestOrder, HasNoOrder}, Inner.Filling.{best_order, AreDistinct}, Orders.{IsPassing, IsPassingOrder}}
use Rattle.cl_tune.proofs.{Members.{has, has_filter, HaveSame, permutes, permuted_same, permuted_distinct}, FilledOrders.{AreAscending, ascending_distinct, ascending_filter, ascending_range, AllFit, IsOrderOf, IsFirstFit, IsAnswer, filled}, NewPriorities.ordered_system, Timings.core_is}
use Rattle.cl_tune.proofs.UnderOrders.{range_below, range_has, passing_fits, fitting_passes}

module _ (model : SystemModel) (valid : IsValid model) (core : ℕ) where
  abbrev system : System
  system = system_of model

  abbrev tasks : List ℕ
  tasks = tasks_of_core model core

  abbrev on_core : ℕ → Bool
  on_core i = core_of model i == core

  tasks_ascend : AreAscending tasks
  tasks_ascend = ascending_filter on_core (range_with_len 0 (length model.tasks)) (ascending_range 0 (length model.tasks))

  -- the tasks of the core, by number
  task_known : (x : ℕ) → has x tasks ≡ true → (x < length system.tasks) × ((timing_at system x).core ≡ core)
  task_known x is =
      let parts = and_parts (has x (range_with_len 0 (length model.tasks))) (on_core x) (sym (has_filter on_core x (range_with_len 0 (length model.tasks))) ∙ is) in
      let below : x < length model.tasks = omega (arith, range_below 0 (length model.tasks) x parts.0) in
      (omega (arith, below, count_is model), core_is model x below ∙ eqb-true (core_of model x) core parts.1)

  pub task_there : (x : ℕ) → x < length system.tasks → (timing_at system x).core ≡ core → has x tasks ≡ true
  task_there x h on =
      let below : x < length model.tasks = omega (arith, h, count_is model) in
      has_filter on_core x (range_with_len 0 (length model.tasks))
      ∙ and_from (has x (range_with_len 0 (length model.tasks))) (on_core x) (range_has 0 (length model.tasks) x (omega arith) (omega (arith, below)))
      (eq-eqb (core_of model x) core (sym (core_is model x below) ∙ on))

  well : (x : ℕ) → has x tasks ≡ true → IsPattern (timing_at system x).pattern
  well x is = ((system_sound model valid).tasks x (task_known x is).0).pattern

  module _ (order : List ℕ) (same : HaveSame order tasks) (once : AreDistinct order) where
    abbrev known : (x : ℕ) → has x order ≡ true → (x < length system.tasks) × ((timing_at system x).core ≡ core)
    known x is = task_known x (sym (same x) ∙ is)

    abbrev all : (x : ℕ) → x < length system.tasks → (timing_at system x).core ≡ core → has x order ≡ true
    all x h on = same x ∙ task_there x h on

    passing_from : IsPermutation tasks order → AllFit system 0 order → IsPassingOrder model core order
    passing_from moved fit = record {
      tasks = moved;
      pass = subst (λ (under : System). All (IsPassing under) order) (sym (ordered_system model core order))
          (fitting_passes system core order once known all fit);
    }

    fits_from : IsPassingOrder model core order → AllFit system 0 order
    fits_from passing = passing_fits system core order once known all
        (subst (λ (under : System). All (IsPassing under) order) (ordered_system model core order) passing.pass)

  order_of : (order : List ℕ) → IsPassingOrder model core order → IsOrderOf system tasks order
  order_of order passing = record {
    once = permuted_distinct tasks order passing.tasks (ascending_distinct tasks tasks_ascend);
    same = λ x. sym (permuted_same tasks order passing.tasks x);
  }

  fit_of : (order : List ℕ) → IsPassingOrder model core order → AllFit system 0 order
  fit_of order passing = let is = order_of order passing in fits_from order is.same is.once passing

  answer : IsAnswer system 0 tasks (best_order system (length tasks) 0 tasks)
  answer = filled system (length tasks) 0 tasks refl tasks_ascend well

  -- what is filled is the best order
  pub filled_is_best : (order : List ℕ) → best_order system (length tasks) 0 tasks ≡ Some order → IsBestOrder model core order
  filled_is_best order is =
      let best : IsFirstFit system 0 tasks order = subst (λ (found : Option (List ℕ)). IsAnswer system 0 tasks found) is answer in
      record {
        passing = passing_from order best.is_order.same best.is_order.once
            (permutes tasks order (ascending_distinct tasks tasks_ascend) best.is_order.once (λ x. sym (best.is_order.same x))) best.fit;
        first = λ other passing. best.first other (order_of other passing) (fit_of other passing);
      }

  -- where none is filled, none passes
  pub none_filled : best_order system (length tasks) 0 tasks ≡ None → HasNoOrder model core
  none_filled is order passing =
      (subst (λ (found : Option (List ℕ)). IsAnswer system 0 tasks found) is answer) order (order_of order passing) (fit_of order passing)
