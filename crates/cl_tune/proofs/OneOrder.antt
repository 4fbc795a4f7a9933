-- A valid model has an order answer, and but one.
use Rattle.std.proofs.Common.{◌≡◌, ℕ, zero, suc, ◌<◌, ◌≤◌, ◌⊎◌, inl, inr, Option, Some, None, List, [], ◌∷◌, length, map, refl, sym, ap, ◌∙◌, arith}
use Rattle.std.specs.Prelude.{slice_index, unwrap_or}
use Rattle.std.specs.List.{range_with_len}
use Rattle.std.proofs.lemmas.Bool.{cases_eq, cases_order}
use Rattle.std.proofs.lemmas.List.{same_lists, get_or_default}
use Rattle.std.proofs.lemmas.List.FromFn.{get_or-map-range_with_len, length-map-range_with_len}
use Rattle.cl_model.specs.{declared.model.SystemModel.SystemModel, ByNumber.{core_of, tasks_of_core}, Validity.IsValid}
use Rattle.cl_model.proofs.NamesKnown.{core_within}
use Rattle.cl_runs.specs.SystemOf.{system_of}
use Rattle.cl_tune.specs.{declared.answer.OrderAnswer.{OrderAnswer, TheVariants.{Order, NoOrder}}, Dictionary.ComesNoLater, Orders.priority_in, BestOrders.{IsBestOrder, AreBestPriorities, IsFirstWithoutOrder, IsOrderAnswer}, Inner.Filling.best_order}
use Rattle.cl_tune.proofs.CoreOrders.{filled_is_best, none_filled}

-- ---- a core has but one best order

-- of two lists of which neither comes later, one is the other
both_first : (xs ys : List ℕ) → ComesNoLater xs ys → ComesNoLater ys xs → xs ≡ ys
both_first [] [] there back = refl
both_first [] (y ∷ ys) there back = absurd back
both_first (x ∷ xs) [] there back = absurd there
both_first (x ∷ xs) (y ∷ ys) (inl below) (inl above) = absurd (omega (arith, below, above))
both_first (x ∷ xs) (y ∷ ys) (inl below) (inr back) = absurd (omega (arith, below, back.0))
both_first (x ∷ xs) (y ∷ ys) (inr there) (inl above) = absurd (omega (arith, above, there.0))
both_first (x ∷ xs) (y ∷ ys) (inr there) (inr back) = ap (λ n. n ∷ xs) there.0 ∙ ap (λ list. y ∷ list) (both_first xs ys there.1 back.1)

pub one_best_order : (model : SystemModel) (core : ℕ) (one other : List ℕ) → IsBestOrder model core one → IsBestOrder model core other → one ≡ other
one_best_order model core one other best best_too = both_first one other (best.first other best_too.passing) (best_too.first one best.passing)

module _ (model : SystemModel) (valid : IsValid model) where
  -- ---- an answer

  -- what is filled of a core
  abbrev filled : (core : ℕ) → Option (List ℕ)
  filled core = best_order (system_of model) (length (tasks_of_core model core)) 0 (tasks_of_core model core)

  abbrev AreFilled : (cores : ℕ) → Type 0
  AreFilled cores = (core : ℕ) → core < cores → (order : List ℕ) × (filled core ≡ Some order)

  one_more : (cores : ℕ) → AreFilled cores → (order : List ℕ) → filled cores ≡ Some order → AreFilled (suc cores)
  one_more cores all order is core within = elim (cases_eq core cores) [
    | inl same ↦ (order, ap filled same ∙ is)
    | inr other ↦ all core (omega (arith, within, other))
  ]

  -- the first cores all have an order, or one of them is the first that has none
  fill : (cores : ℕ) → cores ≤ length model.cores → AreFilled cores ⊎ ((core : ℕ) × IsFirstWithoutOrder model core)
  fill zero within = inl (λ core below. absurd (omega (arith, below)))
  fill (suc cores) within = elim (fill cores (omega (arith, within))) [
    | inr found ↦ inr found
    | inl all ↦ next all (filled cores) refl
  ]
    where
      next : AreFilled cores → (order : Option (List ℕ)) → filled cores ≡ order → AreFilled (suc cores) ⊎ ((core : ℕ) × IsFirstWithoutOrder model core)
      next all (Some order) is = inl (one_more cores all order is)
      next all None is = inr (
        cores,
        record {
          is_core = within;
          none = none_filled model valid cores is;
          first = λ earlier below.
              let (order, is) = all earlier below in
              (order, (filled_is_best model valid earlier order is).passing);
        },
      )

  -- the priority that what is filled of its core gives a task
  abbrev priority_of : (task : ℕ) → ℕ
  priority_of task = priority_in (unwrap_or (filled (core_of model task)) []) task

  abbrev priorities : List ℕ
  priorities = map priority_of (range_with_len 0 (length model.tasks))

  priorities_best : AreFilled (length model.cores) → AreBestPriorities model priorities
  priorities_best all = record {
    one_a_task = length-map-range_with_len priority_of 0 (length model.tasks);
    cores = λ core within.
        let (order, is) = all core within in
        record {
          order = order;
          best = filled_is_best model valid core order is;
          given = λ task lt on.
              get_or-map-range_with_len priority_of 0 (length model.tasks) task task 0 lt (omega arith)
              ∙ ap (λ n. priority_in (unwrap_or (filled n) []) task) on
              ∙ ap (λ found. priority_in (unwrap_or found []) task) is;
        };
  }

  pub some_order_answer : (answer : OrderAnswer) × IsOrderAnswer model answer
  some_order_answer = elim (fill (length model.cores) (omega arith)) [
    | inl all ↦ (Order priorities, priorities_best all)
    | inr found ↦ (NoOrder found.0, found.1)
  ]

  -- ---- and but one

  module _ (one other : List ℕ) (best : AreBestPriorities model one) (best_too : AreBestPriorities model other) where
    same_priority : (task : ℕ) → task < length model.tasks → slice_index one task ≡ slice_index other task
    same_priority task within =
        let core = core_of model task in
        let is_core = core_within model valid task within in
        let ones = best.cores core is_core in
        let others = best_too.cores core is_core in
        ones.given task within refl
        ∙ ap (λ order. priority_in order task) (one_best_order model core ones.order others.order ones.best others.best)
        ∙ sym (others.given task within refl)

    same_priorities : one ≡ other
    same_priorities = same_lists one other (best.one_a_task ∙ sym best_too.one_a_task)
        (λ k d lt.
        get_or_default one k d 0 lt
        ∙ same_priority k (omega (arith, lt, best.one_a_task))
        ∙ sym (get_or_default other k d 0 (omega (arith, lt, best.one_a_task, best_too.one_a_task))))

  -- where priorities are the best there is no core without an order
  no_core_left : (given : List ℕ) (core : ℕ) → AreBestPriorities model given → IsFirstWithoutOrder model core → ⊥
  no_core_left given core best without =
      let has = best.cores core without.is_core in
      without.none has.order has.best.passing

  same_core : (one other : ℕ) → IsFirstWithoutOrder model one → IsFirstWithoutOrder model other → one ≡ other
  same_core one other first first_too = elim (cases_order one other) [
    | inl same ↦ same
    | inr (inl below) ↦ let (order, passing) = first_too.first one below in absurd (first.none order passing)
    | inr (inr above) ↦ let (order, passing) = first.first other above in absurd (first_too.none order passing)
  ]

  pub one_order_answer : (one other : OrderAnswer) → IsOrderAnswer model one → IsOrderAnswer model other → one ≡ other
  one_order_answer (Order given) (Order others) is is_too = ap (λ (list : List ℕ). Order list) (same_priorities given others is is_too)
  one_order_answer (Order given) (NoOrder core) is is_too = absurd (no_core_left given core is is_too)
  one_order_answer (NoOrder core) (Order given) is is_too = absurd (no_core_left given core is_too is)
  one_order_answer (NoOrder core) (NoOrder other) is is_too = ap (λ (n : ℕ). NoOrder n) (same_core core other is is_too)
