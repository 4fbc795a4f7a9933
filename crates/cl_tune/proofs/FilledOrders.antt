-- The order that is filled from the lowest priority upward is the first of those that fit, and there is none only where
-- none fits: whatever fits lowest may be taken out of any other order that fits and put below the rest of it.
-- Source: Audsley 1991.
use Rattle.std.proofs.Common.{◌≡◌, ℕ, zero, suc, ◌+◌, ◌<◌, ◌≤◌, inl, inr, max, Bool, true, false, cond, not, ◌&&◌, ◌||◌, Option, Some, None, List, [], ◌∷◌, length, refl, sym, ap, ◌∙◌, subst, arith}
use Rattle.std.specs.Prelude.{◌==◌, filter, find}
use Rattle.std.specs.List.{range_with_len}
use Rattle.std.specs.Option.{option_map, option_and_then}
use Rattle.std.proofs.lemmas.Bool.{true≢false, false≢true, eqb-true, and_parts, and_right, cases_order, false_from_ne_true, not_from_true, not_from_false, cond-true, cond-false}
use Rattle.cl_model.specs.{declared.model.SystemModel.SystemModel, ByNumber.{core_of, tasks_of_core}}
use Rattle.cl_runs.specs.{Pattern.IsPattern, TaskTiming.{System, timing_at}}
use Rattle.cl_runs.proofs.FirstFound.{none_passes}
use Rattle.cl_resp.specs.Question.{longest_hold}
use Rattle.cl_tune.specs.{Dictionary.ComesNoLater, Inner.Filling.{without, fits_below, fits, best_order, AreDistinct}}
use Rattle.cl_tune.proofs.{Members.{has, has_itself, has_head, has_more, has_cases, has_filter, HaveSame, all_at, distinct_filter, without_head, without_other, length_without, same_without, lengths_agree}, FitsBelow.{fits_same, fits_moved_up}}

-- ---- ascending lists

-- each number is below those after it
abbrev pub AreAscending : List ℕ → Type 0
AreAscending [] = Unit {0}
AreAscending (x ∷ xs) = ((y : ℕ) → has y xs ≡ true → x < y) × AreAscending xs

pub ascending_distinct : (xs : List ℕ) → AreAscending xs → AreDistinct xs
ascending_distinct [] up = tt
ascending_distinct (x ∷ xs) up = (false_from_ne_true (has x xs) (λ is. absurd (omega (arith, up.0 x is))), ascending_distinct xs up.1)

pub ascending_filter : (p : ℕ → Bool) (xs : List ℕ) → AreAscending xs → AreAscending (filter p xs)
ascending_filter p [] up = tt
ascending_filter p (x ∷ xs) up = elim (p x) as (λ b. AreAscending (cond b (x ∷ filter p xs) (filter p xs))) [
  | true ↦ ((λ y is. up.0 y (and_parts (has y xs) (p y) (sym (has_filter p y xs) ∙ is)).0), ascending_filter p xs up.1)
  | false ↦ ascending_filter p xs up.1
]

pub range_from : (a n y : ℕ) → has y (range_with_len a n) ≡ true → a ≤ y
range_from a zero y is = absurd (false≢true is)
range_from a (suc n) y is = elim (has_cases y a (range_with_len (a + 1) n) is) [
  | inl same ↦ omega (arith, same)
  | inr rest ↦ omega (arith, range_from (a + 1) n y rest)
]

pub ascending_range : (a n : ℕ) → AreAscending (range_with_len a n)
ascending_range a zero = tt
ascending_range a (suc n) = ((λ y is. omega (arith, range_from (a + 1) n y is)), ascending_range (a + 1) n)

-- no task stands in the list of a core twice
pub tasks_distinct : (model : SystemModel) (core : ℕ) → AreDistinct (tasks_of_core model core)
tasks_distinct model core =
    ascending_distinct (tasks_of_core model core)
    (ascending_filter (λ i. core_of model i == core) (range_with_len 0 (length model.tasks)) (ascending_range 0 (length model.tasks)))

-- ---- what is found first

pub found_passes : (test : ℕ → Bool) (xs : List ℕ) (x : ℕ) → find test xs ≡ Some x → (has x xs ≡ true) × (test x ≡ true)
found_passes test [] x is = cc
found_passes test (y ∷ ys) x is = go (test y) refl (found_passes test ys x)
  where
    go : (b : Bool) → test y ≡ b → (find test ys ≡ Some x → (has x ys ≡ true) × (test x ≡ true)) → (has x (y ∷ ys) ≡ true) × (test x ≡ true)
    go true e again =
        let here : Some y ≡ Some x = sym (cond-true (test y) (Some y) (find test ys) e) ∙ is in
        let same : y ≡ x = cc in
        (subst (λ n. has n (y ∷ ys) ≡ true) same (has_head y ys), ap test (sym same) ∙ e)
    go false e again =
        let rest = again (sym (cond-false (test y) (Some y) (find test ys) e) ∙ is) in
        (has_more x y ys rest.0, rest.1)

-- of an ascending list, what is found first is the least that passes
pub found_least : (test : ℕ → Bool) (xs : List ℕ) (x y : ℕ) → AreAscending xs → find test xs ≡ Some x → has y xs ≡ true → test y ≡ true → x ≤ y
found_least test [] x y up is there passes = absurd (false≢true there)
found_least test (z ∷ zs) x y up is there passes = go (test z) refl (found_least test zs x y up.1)
  where
    go : (b : Bool) → test z ≡ b → (find test zs ≡ Some x → has y zs ≡ true → test y ≡ true → x ≤ y) → x ≤ y
    go true e again =
        let here : Some z ≡ Some x = sym (cond-true (test z) (Some z) (find test zs) e) ∙ is in
        let same : z ≡ x = cc in
        elim (has_cases y z zs there) [ inl it ↦ omega (arith, same, it) | inr rest ↦ omega (arith, same, up.0 y rest) ]
    go false e again = elim (has_cases y z zs there) [
      | inl it ↦ absurd (true≢false (sym passes ∙ sym (ap test it) ∙ e))
      | inr rest ↦ again (sym (cond-false (test z) (Some z) (find test zs) e) ∙ is) rest passes
    ]

-- ---- orders that fit

module _ (system : System) where
  abbrev hold : ℕ → ℕ
  hold task = longest_hold (timing_at system task)

  -- each task of an order fits below those after it, where what stands before it may hold the core for so long
  abbrev pub AllFit : (block : ℕ) → List ℕ → Type 0
  AllFit block [] = Unit {0}
  AllFit block (task ∷ tasks) = (fits_below system block tasks task ≡ true) × AllFit (max block (hold task)) tasks

  -- an order of the unplaced tasks
  pub record IsOrderOf (unplaced order : List ℕ) : Type 0 where
    pub once : AreDistinct order
    pub same : HaveSame order unplaced

  -- one task is taken out of an order that fits and put below the rest
  pub moved_down : (block : ℕ) (order : List ℕ) (task : ℕ) → AreDistinct order → has task order ≡ true → IsPattern (timing_at system task).pattern
      → AllFit block order → AllFit (max block (hold task)) (without task order)
  moved_down block [] task once there well fit = tt
  moved_down block (x ∷ xs) task once there well fit = go (x == task) refl (moved_down (max block (hold x)) xs task once.1)
    where
      go : (b : Bool) → (x == task) ≡ b
          → (has task xs ≡ true → IsPattern (timing_at system task).pattern → AllFit (max block (hold x)) xs → AllFit (max (max block (hold x)) (hold task)) (without task xs))
          → AllFit (max block (hold task)) (without task (x ∷ xs))
      go true e again =
          let same = eqb-true x task e in
          let absent : has task xs ≡ false = ap (λ n. has n xs) (sym same) ∙ once.0 in
          let rest : without task (x ∷ xs) ≡ xs = ap (λ n. without task (n ∷ xs)) same ∙ without_head task xs absent in
          subst (λ (list : List ℕ). AllFit (max block (hold task)) list) (sym rest) (subst (λ n. AllFit (max block (hold n)) xs) same fit.1)
      go false e again =
          let there_rest : has task xs ≡ true = sym (ap (λ b. b || has task xs) e) ∙ there in
          let swapped : max (max block (hold x)) (hold task) ≡ max (max block (hold task)) (hold x) = omega arith in
          subst (λ (list : List ℕ). AllFit (max block (hold task)) list) (sym (without_other task x xs e)) (
            fits_moved_up system block xs x task once.1 there_rest well fit.0,
            subst (λ n. AllFit n (without task xs)) swapped (again there_rest well fit.1),
          )

  -- the order without one task is an order of the unplaced without it
  order_without : (unplaced order : List ℕ) (task : ℕ) → IsOrderOf unplaced order → IsOrderOf (without task unplaced) (without task order)
  order_without unplaced order task is = record {
    once = distinct_filter (λ y. not (y == task)) order is.once;
    same = λ x. has_filter (λ y. not (y == task)) x order ∙ ap (λ b. b && not (x == task)) (is.same x) ∙ sym (has_filter (λ y. not (y == task)) x unplaced);
  }

  -- the rest of an order is an order of the unplaced without its first
  order_tail : (unplaced rest : List ℕ) (task : ℕ) → IsOrderOf unplaced (task ∷ rest) → IsOrderOf (without task unplaced) rest
  order_tail unplaced rest task is = record { once = is.once.1; same = same_without task rest unplaced is.once.0 is.same }

  -- and the other way round
  order_cons : (unplaced rest : List ℕ) (task : ℕ) → has task unplaced ≡ true → IsOrderOf (without task unplaced) rest → IsOrderOf unplaced (task ∷ rest)
  order_cons unplaced rest task there is = record {
    once = (is.same task ∙ has_filter (λ y. not (y == task)) task unplaced ∙ and_right (has task unplaced) (not (task == task)) (not_from_true (task == task) (has_itself task)), is.once);
    same = λ x. go x (task == x) refl;
  }
    where
      go : (x : ℕ) (b : Bool) → (task == x) ≡ b → has x (task ∷ rest) ≡ has x unplaced
      go x true e = ap (λ b. b || has x rest) e ∙ sym (ap (λ n. has n unplaced) (sym (eqb-true task x e)) ∙ there)
      go x false e =
          let other : (x == task) ≡ false = false_from_ne_true (x == task)
          (λ t. true≢false (sym (has_itself task) ∙ ap (λ n. task == n) (sym (eqb-true x task t)) ∙ e)) in
          ap (λ b. b || has x rest) e ∙ is.same x ∙ has_filter (λ y. not (y == task)) x unplaced
          ∙ ap (λ b. has x unplaced && b) (not_from_false (x == task) other) ∙ pass (has x unplaced)
        where
          pass : (b : Bool) → (b && true) ≡ b
          pass true = refl
          pass false = refl

  -- the first of an order that fits is among those that fit below all others
  first_fits : (block : ℕ) (unplaced rest : List ℕ) (task : ℕ) → AreDistinct unplaced → IsOrderOf unplaced (task ∷ rest)
      → fits_below system block rest task ≡ true → fits system block unplaced task ≡ true
  first_fits block unplaced rest task once is fit =
      let tail = order_tail unplaced rest task is in
      fits_same system block rest (without task unplaced) task tail.once (distinct_filter (λ y. not (y == task)) unplaced once) tail.same fit

  -- ---- the order that is filled

  -- what is answered for the unplaced tasks: the first order that fits, or that none does
  pub record IsFirstFit (block : ℕ) (unplaced order : List ℕ) : Type 0 where
    pub is_order : IsOrderOf unplaced order
    pub fit : AllFit block order
    pub first : (other : List ℕ) → IsOrderOf unplaced other → AllFit block other → ComesNoLater order other

  abbrev pub NoneFits : (block : ℕ) (unplaced : List ℕ) → Type 0
  NoneFits block unplaced = (order : List ℕ) → IsOrderOf unplaced order → AllFit block order → ⊥

  abbrev pub IsAnswer : (block : ℕ) (unplaced : List ℕ) → Option (List ℕ) → Type 0
  IsAnswer block unplaced None = NoneFits block unplaced
  IsAnswer block unplaced (Some order) = IsFirstFit block unplaced order

  no_task : (unplaced : List ℕ) → 0 ≡ length unplaced → unplaced ≡ []
  no_task [] none = refl
  no_task (x ∷ xs) none = absurd (omega (arith, none))

  module _ (block : ℕ) (unplaced : List ℕ) (up : AreAscending unplaced) (well : (x : ℕ) → has x unplaced ≡ true → IsPattern (timing_at system x).pattern) where
    -- where none fits below all others, no order fits
    nothing : (left : ℕ) → suc left ≡ length unplaced → find (fits system block unplaced) unplaced ≡ None → NoneFits block unplaced
    nothing left some none [] is fit = absurd (omega (arith, some, lengths_agree [] unplaced is.once (ascending_distinct unplaced up) is.same))
    nothing left some none (task ∷ rest) is fit =
        let there : has task unplaced ≡ true = sym (is.same task) ∙ has_head task rest in
        let fails = all_at (λ x. fits system block unplaced x ≡ false) unplaced task (none_passes (fits system block unplaced) unplaced none) there in
        true≢false (sym (first_fits block unplaced rest task (ascending_distinct unplaced up) is fit.0) ∙ fails)

    module _ (task : ℕ) (found : find (fits system block unplaced) unplaced ≡ Some task) where
      -- where no order of the rest fits above what is found, none fits
      nothing_above : NoneFits (max block (hold task)) (without task unplaced) → NoneFits block unplaced
      nothing_above none order is fit =
          let there : has task order ≡ true = is.same task ∙ (found_passes (fits system block unplaced) unplaced task found).0 in
          none (without task order) (order_without unplaced order task is)
          (moved_down block order task is.once there (well task (found_passes (fits system block unplaced) unplaced task found).0) fit)

      -- what is found and the first order of the rest is the first order
      first_above : (rest : List ℕ) → IsFirstFit (max block (hold task)) (without task unplaced) rest → IsFirstFit block unplaced (task ∷ rest)
      first_above rest best =
          let passes = found_passes (fits system block unplaced) unplaced task found in
          record {
            is_order = order_cons unplaced rest task passes.0 best.is_order;
            fit = (
              fits_same system block (without task unplaced) rest task (distinct_filter (λ y. not (y == task)) unplaced (ascending_distinct unplaced up)) best.is_order.once
                  (λ x. sym (best.is_order.same x)) passes.1,
              best.fit,
            );
            first = comes_first;
          }
        where
          comes_first : (other : List ℕ) → IsOrderOf unplaced other → AllFit block other → ComesNoLater (task ∷ rest) other
          comes_first [] is fit = absurd (false≢true (is.same task ∙ (found_passes (fits system block unplaced) unplaced task found).0))
          comes_first (x ∷ xs) is fit =
              let there : has x unplaced ≡ true = sym (is.same x) ∙ has_head x xs in
              let least = found_least (fits system block unplaced) unplaced task x up found there (first_fits block unplaced xs x (ascending_distinct unplaced up) is fit.0) in
              elim (cases_order task x) [
                | inl same ↦ inr (
                  same,
                  best.first xs
                      (subst (λ n. IsOrderOf (without n unplaced) xs) (sym same) (order_tail unplaced xs x is))
                      (subst (λ n. AllFit (max block (hold n)) xs) (sym same) fit.1),
                )
                | inr (inl below) ↦ inl below
                | inr (inr above) ↦ absurd (omega (arith, least, above))
              ]

  pub filled : (count block : ℕ) (unplaced : List ℕ) → count ≡ length unplaced → AreAscending unplaced
      → ((x : ℕ) → has x unplaced ≡ true → IsPattern (timing_at system x).pattern) → IsAnswer block unplaced (best_order system count block unplaced)
  filled zero block unplaced none up well = subst (λ (list : List ℕ). IsFirstFit block list []) (sym (no_task unplaced none)) (record {
    is_order = record { once = tt; same = λ x. refl };
    fit = tt;
    first = λ other is fit. tt;
  })
  filled (suc count) block unplaced some up well = go (find (fits system block unplaced) unplaced) refl
      (λ task there. filled count (max block (hold task)) (without task unplaced)
      (omega (arith, some, length_without task unplaced (ascending_distinct unplaced up) there))
      (ascending_filter (λ y. not (y == task)) unplaced up)
      (λ x is. well x (and_parts (has x unplaced) (not (x == task)) (sym (has_filter (λ y. not (y == task)) x unplaced) ∙ is)).0))
    where
      above : (task : ℕ) → find (fits system block unplaced) unplaced ≡ Some task → (rest : Option (List ℕ)) → IsAnswer (max block (hold task)) (without task unplaced) rest
          → IsAnswer block unplaced (option_map (λ order. task ∷ order) rest)
      above task found None none = nothing_above block unplaced up well task found none
      above task found (Some rest) best = first_above block unplaced up well task found rest best

      go : (first : Option ℕ) → find (fits system block unplaced) unplaced ≡ first
          → ((task : ℕ) → has task unplaced ≡ true → IsAnswer (max block (hold task)) (without task unplaced) (best_order system count (max block (hold task)) (without task unplaced)))
          → IsAnswer block unplaced (option_and_then (λ task. option_map (λ order. task ∷ order) (best_order system count (max block (hold task)) (without task unplaced))) first)
      go None found again = nothing block unplaced up well count some found
      go (Some task) found again = above task found (best_order system count (max block (hold task)) (without task unplaced))
          (again task (found_passes (fits system block unplaced) unplaced task found).0)
