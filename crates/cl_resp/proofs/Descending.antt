-- Down a core no window is less: a task has above it what stands above one of higher priority, and that one.
use Rattle.std.proofs.Common.{◌≡◌, ℕ, zero, suc, ◌+◌, ◌*◌, ◌/◌, ◌%◌, ◌<◌, ◌≤◌, inl, inr, Bool, true, false, cond, ◌&&◌, nat_lt, List, [], ◌∷◌, length, get_or, map, min, refl, sym, ap, ◌∙◌, subst, arith}
use Rattle.std.specs.Prelude.{◌==◌, sum_by}
use Rattle.std.specs.List.{filter}
use Rattle.std.proofs.lemmas.Bool.{cases_lt, and_parts, and_from, eqb-true, eq-eqb, ltb-true, lt-ltb, le-ltb}
use Rattle.std.proofs.lemmas.Grind.{div_ceil_times}
use Rattle.std.proofs.lemmas.List.Folds.{fold-map}
use Rattle.std.proofs.lemmas.Nat.{div-add-mod'}
use Rattle.std.proofs.lemmas.List.Sums.{sum_by-cons}
use Rattle.std.proofs.Math.Nat.{mul-le-mul_right}
use Rattle.cl_model.specs.declared.stimulus.StimulusKind.{StimulusKind, TheVariants.{Periodic, Sporadic, Burst}}
use Rattle.cl_runs.specs.{Pattern.IsPattern, TaskTiming.{Timing, System, timing_at, IsSound}, Priorities.is_above, ExecutionTimes.greatest_execution}
use Rattle.cl_stim.specs.{AnyStimulus.{kind_of, as_stimulus}, Releases.most_releases}
use Rattle.cl_stim.proofs.StimulusKinds.{kind_of-as_stimulus}
use Rattle.cl_resp.specs.{declared.question.{Block.{Block, TheVariants.{OfLower, WithOwn}}, Above.Above}, Question.{taken_by, question_of, tight_question_of, either_question}, Response.{demand, NoneServesBelow}, Inner.Rising.taken_in}
use Rattle.cl_resp.proofs.{SettledTasks.tasks_take_time, Windows.demand_some}

-- ---- a sum over more items is no less

module _ {X : Type 0} (f : X → ℕ) (p q : X → Bool) (more : (x : X) → p x ≡ true → q x ≡ true) where
  sum_of_more : (xs : List X) → sum_by f (filter p xs) ≤ sum_by f (filter q xs)
  sum_of_more [] = omega arith
  sum_of_more (x ∷ xs) =
      let rest = sum_of_more xs in
      elim (p x) as (λ b. (b ≡ true → q x ≡ true) → sum_by f (cond b (x ∷ filter p xs) (filter p xs)) ≤ sum_by f (cond (q x) (x ∷ filter q xs) (filter q xs))) [
        | true ↦ λ passes. subst (λ b. sum_by f (x ∷ filter p xs) ≤ sum_by f (cond b (x ∷ filter q xs) (filter q xs))) (sym (passes refl))
            (omega (arith, rest, sum_by-cons f x (filter p xs), sum_by-cons f x (filter q xs)))
        | false ↦ λ passes. elim (q x) as (λ b. sum_by f (filter p xs) ≤ sum_by f (cond b (x ∷ filter q xs) (filter q xs))) [
          | true ↦ omega (arith, rest, sum_by-cons f x (filter q xs))
          | false ↦ rest
        ]
      ] (more x)

  -- and less by one that only the other counts
  pub sum_of_one_more : (xs : List X) (n : ℕ) (d : X) → n < length xs → p (get_or xs n d) ≡ false → q (get_or xs n d) ≡ true
      → sum_by f (filter p xs) + f (get_or xs n d) ≤ sum_by f (filter q xs)
  sum_of_one_more [] n d lt fails passes = absurd (omega (arith, lt))
  sum_of_one_more (x ∷ xs) zero d lt fails passes =
      subst (λ b. sum_by f (cond b (x ∷ filter p xs) (filter p xs)) + f x ≤ sum_by f (cond (q x) (x ∷ filter q xs) (filter q xs))) (sym fails)
      (subst (λ b. sum_by f (filter p xs) + f x ≤ sum_by f (cond b (x ∷ filter q xs) (filter q xs))) (sym passes)
      (omega (arith, sum_of_more xs, sum_by-cons f x (filter q xs))))
  sum_of_one_more (x ∷ xs) (suc n) d lt fails passes =
      let rest = sum_of_one_more xs n d (omega (arith, lt)) fails passes in
      elim (p x) as (λ b. (b ≡ true → q x ≡ true) → sum_by f (cond b (x ∷ filter p xs) (filter p xs)) + f (get_or xs n d)
      ≤ sum_by f (cond (q x) (x ∷ filter q xs) (filter q xs))) [
        | true ↦ λ passes. subst (λ b. sum_by f (x ∷ filter p xs) + f (get_or xs n d) ≤ sum_by f (cond b (x ∷ filter q xs) (filter q xs))) (sym (passes refl))
            (omega (arith, rest, sum_by-cons f x (filter p xs), sum_by-cons f x (filter q xs)))
        | false ↦ λ passes. elim (q x) as (λ b. sum_by f (filter p xs) + f (get_or xs n d) ≤ sum_by f (cond b (x ∷ filter q xs) (filter q xs))) [
          | true ↦ omega (arith, rest, sum_by-cons f x (filter q xs))
          | false ↦ rest
        ]
      ] (more x)

-- ---- each window of a tick or more releases a job

ceil_some : (n d : ℕ) → 1 ≤ d → 1 ≤ n → 1 ≤ n / d + min 1 (n % d)
ceil_some n d some positive = elim (cases_lt (n / d + min 1 (n % d)) 1) [
  | inr le ↦ le
  | inl none ↦
      let small : (n / d + min 1 (n % d)) * d ≤ 0 * d = mul-le-mul_right d (omega (arith, none)) in
      absurd (omega (arith, small, positive, (div_ceil_times n d some).0))
]

burst_some : (width period count distance : ℕ) → 1 ≤ count → 1 ≤ distance → 1 ≤ width
    → 1 ≤ width / period * count + min count (width % period / distance + min 1 (width % period % distance))
burst_some width period count distance some_count some_distance some = elim (cases_lt (width / period) 1) [
  | inl first ↦
      let none : width / period * period ≤ 0 * period = mul-le-mul_right period (omega (arith, first)) in
      let rest : 1 ≤ width % period = omega (arith, some, none, div-add-mod' width period) in
      omega (arith, some_count, ceil_some (width % period) distance some_distance rest)
  | inr later ↦
      let one : 1 * count ≤ width / period * count = mul-le-mul_right count later in
      omega (arith, some_count, one)
]

releases_some : (kind : StimulusKind) → IsPattern kind → (width : ℕ) → 1 ≤ width → 1 ≤ most_releases kind width
unfolding most_releases
releases_some (Periodic period offset jitter) well width some = ceil_some (width + jitter) period well (omega (arith, some))
releases_some (Sporadic least greatest) well width some = ceil_some width least well.0 some
releases_some (Burst period offset count distance) well width some = burst_some width period count distance well.0 well.1 some

-- ---- the demand of the lower task

-- what a task takes of a window
abbrev work_in : (width : ℕ) → Timing → ℕ
work_in width other = taken_in (taken_by other) width

module _ (system : System) (sound : IsSound system) (task higher : ℕ) (known : higher < length system.tasks)
    (above : is_above (timing_at system task) (timing_at system higher) ≡ true) where
  parts : ((timing_at system higher).core == (timing_at system task).core ≡ true)
      × (nat_lt (timing_at system task).priority (timing_at system higher).priority ≡ true)
  parts = and_parts _ _ above

  above_both : (other : Timing) → is_above (timing_at system higher) other ≡ true → is_above (timing_at system task) other ≡ true
  above_both other passes =
      let two = and_parts (other.core == (timing_at system higher).core) (nat_lt (timing_at system higher).priority other.priority) passes in
      let here : other.core ≡ (timing_at system task).core = eqb-true _ _ two.0 ∙ eqb-true _ _ parts.0 in
      let over : (timing_at system task).priority < other.priority = omega (arith, ltb-true _ _ two.1, ltb-true _ _ parts.1) in
      and_from (other.core == (timing_at system task).core) (nat_lt (timing_at system task).priority other.priority) (eq-eqb _ _ here) (lt-ltb _ _ over)

  not_itself : is_above (timing_at system higher) (timing_at system higher) ≡ false
  not_itself = ap (λ b. ((timing_at system higher).core == (timing_at system higher).core) && b)
      (le-ltb (timing_at system higher).priority (timing_at system higher).priority (omega arith)) ∙ and_false ((timing_at system higher).core == (timing_at system higher).core)
    where
      and_false : (b : Bool) → (b && false) ≡ false
      and_false true = refl
      and_false false = refl

  sums : (width : ℕ) → (one : Timing) → sum_by (λ (a : Above). taken_in a width) (map taken_by (filter (is_above one) system.tasks))
      ≡ sum_by (work_in width) (filter (is_above one) system.tasks)
  sums width one = fold-map (λ (n : ℕ) (a : Above). n + taken_in a width) taken_by 0 (filter (is_above one) system.tasks)

  takes_some : (width : ℕ) → 1 ≤ width → greatest_execution (timing_at system higher) ≤ work_in width (timing_at system higher)
  takes_some width some =
      let kind = (timing_at system higher).pattern in
      let releases : 1 ≤ most_releases (kind_of (as_stimulus kind)) width =
      subst (λ (k : StimulusKind). 1 ≤ most_releases k width) (sym (kind_of-as_stimulus kind)) (releases_some kind (sound.tasks higher known).pattern width some) in
      let times : 1 * greatest_execution (timing_at system higher) ≤ work_in width (timing_at system higher) = mul-le-mul_right (greatest_execution (timing_at system higher)) releases in
      omega (arith, times)

  more_above : (width : ℕ) → 1 ≤ width
      → sum_by (λ (a : Above). taken_in a width) (map taken_by (filter (is_above (timing_at system higher)) system.tasks)) + greatest_execution (timing_at system higher)
      ≤ sum_by (λ (a : Above). taken_in a width) (map taken_by (filter (is_above (timing_at system task)) system.tasks))
  more_above width some = omega (
    arith,
    sums width (timing_at system higher),
    sums width (timing_at system task),
    takes_some width some,
    sum_of_one_more (work_in width) (is_above (timing_at system higher)) (is_above (timing_at system task)) above_both system.tasks higher _ known not_itself above,
  )

  -- where the higher one is blocked no longer but for the time of the lower one, its demand is no greater
  pub demand_descends : (blocking : Block)
      → (either_question blocking system (timing_at system higher)).block
      ≤ (either_question blocking system (timing_at system task)).block + (either_question blocking system (timing_at system task)).time
      → (width : ℕ) → 1 ≤ width
      → demand (either_question blocking system (timing_at system higher)) width ≤ demand (either_question blocking system (timing_at system task)) width
  unfolding demand question_of tight_question_of
  demand_descends WithOwn blocks width some = omega (arith, blocks, more_above width some)
  demand_descends OfLower blocks width some = omega (arith, blocks, more_above width some)

  -- so no width serves it that doesn't serve the higher one
  pub none_descends : (blocking : Block)
      → (either_question blocking system (timing_at system higher)).block
      ≤ (either_question blocking system (timing_at system task)).block + (either_question blocking system (timing_at system task)).time
      → 1 ≤ (either_question blocking system (timing_at system task)).time
      → (start : ℕ) → NoneServesBelow (either_question blocking system (timing_at system higher)) start
      → NoneServesBelow (either_question blocking system (timing_at system task)) start
  none_descends blocking blocks some start none zero below = omega (arith, some, demand_some (either_question blocking system (timing_at system task)) 0)
  none_descends blocking blocks some start none (suc width) below =
      omega (arith, none (suc width) below, demand_descends blocking blocks (suc width) (omega arith))

-- by either question each task of a sound system takes some time
pub tasks_take_some : (blocking : Block) (system : System) → IsSound system → (task : ℕ) → task < length system.tasks → 1 ≤ (either_question blocking system (timing_at system task)).time
unfolding question_of tight_question_of
tasks_take_some WithOwn system sound task is = tasks_take_time system sound task is
tasks_take_some OfLower system sound task is = tasks_take_time system sound task is
