-- What all tasks of a list but for one take, where no task stands in the list twice, and which deadlines span few least
-- distances of them. Times are in ticks.
use Rattle.std.proofs.Common.{◌≡◌, ℕ, zero, suc, ◌+◌, ◌*◌, ◌<◌, min, Bool, true, false, cond, not, ◌&&◌, inl, inr, nat_lt, nat_le, List, [], ◌∷◌, length, get_or, map, refl, sym, ap, ◌∙◌, arith}
use Rattle.std.specs.Prelude.{◌==◌, remove, slice_set}
use Rattle.std.specs.List.{list_all}
use Rattle.std.proofs.lemmas.Bool.{true≢false, false_from_ne_true, eqb-true, eq-eqb, cases_lt, lt-ltb, le-ltb, le-leb, lt-leb}
use Rattle.std.proofs.lemmas.List.Folds.{list_any_at}
use Rattle.cl_model.specs.{declared.{limits.TheConstants.MOST_DISTANCES, model.SystemModel.SystemModel, stimulus.StimulusKind.StimulusKind}, ByNumber.{stimulus_of, deadline_of}, Timing.{least_distance, greatest_jitter}, Validity.IsValid, ValidTasks.spans_too_many}
use Rattle.cl_model.proofs.ValidTasks.{early_enough, released_before}
use Rattle.cl_runs.specs.{SystemOf.system_of, TaskTiming.timing_at}
use Rattle.cl_tune.specs.Inner.Filling.{without, AreDistinct, spans_few, spans_few_of}
use Rattle.cl_tune.proofs.{Members.{has, without_head, without_other}, Timings.{pattern_is, deadline_is}}

-- ---- one place of a list

-- a later place of a list has another number than its head
other_later : (x : ℕ) (xs : List ℕ) (place : ℕ) → place < length xs → has x xs ≡ false → (x == get_or xs place 0) ≡ false
other_later x xs place within absent = false_from_ne_true (x == get_or xs place 0)
    (λ same. true≢false (sym (list_any_at (λ y. y == x) xs place 0 within (eq-eqb (get_or xs place 0) x (sym (eqb-true x (get_or xs place 0) same)))) ∙ absent))

-- the list but for a place is that without what stands there
pub removed_is : {X : Type 0} (f : ℕ → X) (tasks : List ℕ) (place : ℕ) → place < length tasks → AreDistinct tasks
    → remove (map f tasks) place ≡ map f (without (get_or tasks place 0) tasks)
removed_is f [] place within once = absurd (omega (arith, within))
removed_is f (x ∷ xs) zero within once = ap (map f) (sym (without_head x xs once.0))
removed_is f (x ∷ xs) (suc place) within once =
    let later : place < length xs = omega (arith, within) in
    ap (λ ys. f x ∷ ys) (removed_is f xs place later once.1)
    ∙ ap (map f) (sym (without_other (get_or xs place 0) x xs (other_later x xs place later once.0)))

-- from the list but for a place to that but for the next one, a single place changes
pub next_is : {X : Type 0} (xs : List X) (place : ℕ) (d : X) → suc place < length xs
    → slice_set (remove xs place) place (get_or xs place d) ≡ remove xs (suc place)
next_is [] place d within = absurd (omega (arith, within))
next_is (x ∷ []) place d within = absurd (omega (arith, within))
next_is (x ∷ y ∷ ys) zero d within = refl
next_is (x ∷ y ∷ ys) (suc place) d within = ap (λ zs. x ∷ zs) (next_is (y ∷ ys) place d (omega (arith, within)))

-- ---- deadlines

-- what lies below two numbers lies below the lesser one
pub below_both : (n a b : ℕ) → (nat_lt n a && not (nat_le b n)) ≡ nat_lt n (min a b)
below_both n a b = elim (cases_lt n a) [
  | inl lt ↦ elim (cases_lt n b) [
    | inl also ↦ ap (λ t. t && not (nat_le b n)) (lt-ltb n a lt) ∙ ap not (lt-leb b n also) ∙ sym (lt-ltb n (min a b) (omega (arith, lt, also)))
    | inr ge ↦ ap (λ t. t && not (nat_le b n)) (lt-ltb n a lt) ∙ ap not (le-leb b n ge) ∙ sym (le-ltb n (min a b) (omega (arith, ge)))
  ]
  | inr ge ↦ ap (λ t. t && not (nat_le b n)) (le-ltb n a ge) ∙ sym (le-ltb n (min a b) (omega (arith, ge)))
]

-- the deadline of a task spans few of its own least distances
own_few : (model : SystemModel) (valid : IsValid model) (task : ℕ) → task < length model.tasks
    → spans_too_many (deadline_of model task) (stimulus_of model task) ≡ false
own_few model valid task h =
    le-ltb (MOST_DISTANCES * least_distance (stimulus_of model task)) (deadline_of model task + greatest_jitter (stimulus_of model task))
    (omega (arith, early_enough model valid task h, released_before model valid task h))

-- a test that a number passes holds of a list where it does without that number
all_without : (test : ℕ → Bool) (x : ℕ) (xs : List ℕ) → test x ≡ true → list_all test (without x xs) ≡ list_all test xs
all_without test x [] passes = refl
all_without test x (y ∷ ys) passes = go (y == x) refl (all_without test x ys passes)
  where
    go : (b : Bool) → (y == x) ≡ b → list_all test (without x ys) ≡ list_all test ys
        → list_all test (cond (not b) (y ∷ without x ys) (without x ys)) ≡ (test y && list_all test ys)
    go true e rest = rest ∙ ap (λ t. t && list_all test ys) (sym (ap test (eqb-true y x e) ∙ passes))
    go false e rest = ap (λ t. test y && t) rest

-- so its own distances don't matter where all tasks of a list are asked
pub few_without : (model : SystemModel) (valid : IsValid model) (task : ℕ) → task < length model.tasks → (tasks : List ℕ)
    → spans_few (system_of model) (without task tasks) task ≡ spans_few_of (system_of model) (deadline_of model task) tasks
few_without model valid task h tasks =
    let system = system_of model in
    let own : spans_too_many (deadline_of model task) (timing_at system task).pattern ≡ false =
    ap (λ (kind : StimulusKind). spans_too_many (deadline_of model task) kind) (pattern_is model task h) ∙ own_few model valid task h in
    ap (λ deadline. spans_few_of system deadline (without task tasks)) (deadline_is model task h)
    ∙ all_without (λ other. not (spans_too_many (deadline_of model task) (timing_at system other).pattern)) task tasks (ap not own)
