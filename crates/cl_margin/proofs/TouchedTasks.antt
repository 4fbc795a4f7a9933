-- The tasks of the core of one that its times touch are all that they touch.
use Rattle.std.proofs.Common.{◌≡◌, ℕ, zero, suc, ◌+◌, ◌<◌, Bool, true, false, cond, ◌&&◌, ◌||◌, nat_lt, List, [], ◌∷◌, length, get_or, take, refl, sym, ap, ◌∙◌, arith}
use Rattle.std.specs.Prelude.{All, ◌==◌}
use Rattle.std.specs.List.{filter, list_any, range_with_len}
use Rattle.std.proofs.lemmas.Bool.{eqb-true, eq-eqb, ltb-true, lt-ltb}
use Rattle.std.proofs.lemmas.List.Folds.{Any-from_list_any, list_any_more}
use Rattle.std.proofs.lemmas.List.FromFn.{length-range_with_len, get_or-range_with_len}
use Rattle.cl_model.specs.{declared.model.SystemModel.SystemModel, ByNumber.{core_of, tasks_of_core}}
use Rattle.cl_model.proofs.ListFacts.{both_pass, both_true, same_tests}
use Rattle.cl_margin.specs.{declared.{trial.Trial.Trial, whose.Whose.TheVariants.OneTask}, Inner.{Touched.touches, Trials.{Forgets, is_touched_task}}}
use Rattle.cl_margin.proofs.Forgotten.{forgets_alike, forgets_more}

or_true : (a b : Bool) → b ≡ true → (a || b) ≡ true
or_true true b is = refl
or_true false b is = is

pub and_true : (b : Bool) → (b && true) ≡ b
and_true true = refl
and_true false = refl

and_false : (b : Bool) → (b && false) ≡ false
and_false true = refl
and_false false = refl

or_false : (b : Bool) → (b || false) ≡ b
or_false true = refl
or_false false = refl

-- what passes two tests is found by the one among what passes the other
any_filtered : (p q : ℕ → Bool) (xs : List ℕ) (k d : ℕ) → k < length xs → q (get_or xs k d) ≡ true → p (get_or xs k d) ≡ true → list_any p (filter q xs) ≡ true
any_filtered p q [] k d lt is passes = absurd (omega (arith, lt))
any_filtered p q (x ∷ xs) zero d lt is passes =
    ap (λ b. list_any p (cond b (x ∷ filter q xs) (filter q xs))) is ∙ ap (λ b. b || list_any p (filter q xs)) passes
any_filtered p q (x ∷ xs) (suc k) d lt is passes =
    let rest = any_filtered p q xs k d (omega (arith, lt)) is passes in
    elim (q x) as (λ b. list_any p (cond b (x ∷ filter q xs) (filter q xs)) ≡ true) [
      | true ↦ or_true (p x) (list_any p (filter q xs)) rest
      | false ↦ rest
    ]

module _ (model : SystemModel) (grown : ℕ) where
  abbrev pub is_forgotten : (tasks : List ℕ) → (task : ℕ) → Bool
  is_forgotten tasks task = list_any (λ other. (task == other) && touches model (OneTask grown) other) tasks

  -- ---- one task more

  module _ (tasks : List ℕ) (i task : ℕ) (lt : i < length tasks) (at : task ≡ get_or tasks i task) where
    one_more : (other : ℕ) → is_forgotten (take (i + 1) tasks) other ≡ (is_forgotten (take i tasks) other || ((other == task) && touches model (OneTask grown) task))
    one_more other =
        list_any_more (λ t. (other == t) && touches model (OneTask grown) t) tasks i task lt
        ∙ ap (λ t. is_forgotten (take i tasks) other || ((other == t) && touches model (OneTask grown) t)) (sym at)

    pub touched_more : (first second third : Trial) → touches model (OneTask grown) task ≡ true → Forgets (is_forgotten (take i tasks)) first second
        → Forgets (λ other. other == task) second third → Forgets (is_forgotten (take (i + 1) tasks)) first third
    touched_more first second third touched one more = forgets_more (is_forgotten (take i tasks)) (λ other. other == task) (is_forgotten (take (i + 1) tasks))
        (λ other. one_more other ∙ ap (λ b. is_forgotten (take i tasks) other || ((other == task) && b)) touched
        ∙ ap (λ b. is_forgotten (take i tasks) other || b) (and_true (other == task)))
        first second third one more

    pub untouched_more : (first second : Trial) → touches model (OneTask grown) task ≡ false → Forgets (is_forgotten (take i tasks)) first second
        → Forgets (is_forgotten (take (i + 1) tasks)) first second
    untouched_more first second out one = forgets_alike (is_forgotten (take i tasks)) (is_forgotten (take (i + 1) tasks))
        (λ other. sym (one_more other ∙ ap (λ b. is_forgotten (take i tasks) other || ((other == task) && b)) out
        ∙ ap (λ b. is_forgotten (take i tasks) other || b) (and_false (other == task))
        ∙ or_false (is_forgotten (take i tasks) other)))
        first second one

  -- ---- all of the core

  on_core : (task : ℕ) → touches model (OneTask grown) task ≡ true → (core_of model task == core_of model grown) ≡ true
  on_core task touched = (both_pass (core_of model task == core_of model grown) _ touched).0

  module _ (task : ℕ) where
    abbrev it : ℕ → Bool
    it other = (task == other) && touches model (OneTask grown) other

    found_touched : is_forgotten (tasks_of_core model (core_of model grown)) task ≡ true
        → All (λ t. t < length model.tasks) (tasks_of_core model (core_of model grown)) → is_touched_task model (OneTask grown) task ≡ true
    found_touched found within =
        let tasks = tasks_of_core model (core_of model grown) in
        let (place, other, lt, there, passes) = Any-from_list_any it tasks found in
        let parts = both_pass (task == other) (touches model (OneTask grown) other) passes in
        let same : task ≡ other = eqb-true task other parts.0 in
        both_true (nat_lt task (length model.tasks)) (touches model (OneTask grown) task)
        (lt-ltb task (length model.tasks) (omega (arith, same, there, within place other lt)))
        (ap (touches model (OneTask grown)) same ∙ parts.1)

    touched_found : is_touched_task model (OneTask grown) task ≡ true → is_forgotten (tasks_of_core model (core_of model grown)) task ≡ true
    touched_found touched =
        let parts = both_pass (nat_lt task (length model.tasks)) (touches model (OneTask grown) task) touched in
        let h : task < length model.tasks = ltb-true task (length model.tasks) parts.0 in
        let numbers = range_with_len 0 (length model.tasks) in
        let at : get_or numbers task 0 ≡ task = omega (arith, get_or-range_with_len 0 (length model.tasks) task 0 h) in
        any_filtered it (λ i. core_of model i == core_of model grown) numbers task 0 (omega (arith, h, length-range_with_len 0 (length model.tasks)))
        (ap (λ i. core_of model i == core_of model grown) at ∙ on_core task parts.1)
        (ap it at ∙ both_true (task == task) (touches model (OneTask grown) task) (eq-eqb task task refl) parts.1)

    pub all_touched : All (λ t. t < length model.tasks) (tasks_of_core model (core_of model grown))
        → is_forgotten (tasks_of_core model (core_of model grown)) task ≡ is_touched_task model (OneTask grown) task
    all_touched within = same_tests (is_forgotten (tasks_of_core model (core_of model grown)) task) (is_touched_task model (OneTask grown) task)
        (λ found. found_touched found within) touched_found
