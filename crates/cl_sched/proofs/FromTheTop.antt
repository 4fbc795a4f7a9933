-- Tasks of a core put in another order, and by falling priority.
use Rattle.std.proofs.Common.{◌≡◌, ℕ, ◌<◌, ◌≤◌, inl, inr, Bool, Option, false, cond, List, length, refl, sym, ap, ◌∙◌, subst, arith}
use Rattle.std.specs.Prelude.{◌==◌}
use Rattle.std.specs.List.{swap}
use Rattle.std.specs.List.Sorted.{IsPermutation, IsSortedBy}
use Rattle.std.specs.Ordering.{is_lt, nat_cmp}
use Rattle.std.specs.Cmp.{IsStrictWeakOrder}
use Rattle.std.specs.Cmp.{nat_cmp_total}
use Rattle.std.proofs.slice.Orders.{nat_cmp-ltb}
use Rattle.std.proofs.lemmas.Bool.{cases_eq, ltb-false, eq-eqb, ne_eqb}
use Rattle.std.proofs.lemmas.List.Edits.{Swapped, swapped_from_swap, length-swap}
use Rattle.std.proofs.lemmas.List.Sorted.{IsPermutation-keeps, IsStrictWeakOrder-flip, ranks_by, sorted_far}
use Rattle.cl_runs.specs.{TaskTiming.System, declared.job.JobTable.JobTable}
use Rattle.cl_sched.specs.{declared.progress.Progress.Progress, CoreProgress.{no_progress, progress_at, IsOfCore, StandsAmong, AreOfCore, AreFalling}}

-- ---- by falling priority

-- a task comes before another
abbrev pub comes_first : Progress → Progress → Bool
comes_first one other = is_lt (nat_cmp other.priority one.priority)

pub is_order : IsStrictWeakOrder comes_first
is_order = IsStrictWeakOrder-flip _ (ranks_by nat_cmp_total (λ (p : Progress). p.priority))

not_first : (one other : Progress) → comes_first other one ≡ false → other.priority ≤ one.priority
not_first one other not = ltb-false one.priority other.priority (sym (nat_cmp-ltb one.priority other.priority) ∙ not)

pub falling : (tasks : List Progress) → IsSortedBy comes_first tasks → AreFalling tasks
falling tasks up one other h within = not_first (progress_at tasks one) (progress_at tasks other)
    (sorted_far comes_first is_order tasks up one other no_progress h within)

-- ---- in another order

module _ (system : System) (table : JobTable) (core : ℕ) (entries : List (Option ℕ)) where
  abbrev Are : List Progress → Type 0
  Are tasks = AreOfCore system table core entries tasks

  module _ (tasks : List Progress) (i j : ℕ) (h_i : i < length tasks) (h_j : j < length tasks) (are : Are tasks) where
    abbrev swapped : List Progress
    swapped = swap tasks i j

    moved : Swapped (progress_at tasks) (progress_at swapped) i j
    moved = swapped_from_swap tasks swapped i j no_progress h_i h_j refl

    -- where the task at a place stood before
    abbrev place : ℕ → ℕ
    place k = cond (k == i) j (cond (k == j) i k)

    at_first : (k : ℕ) → k ≡ i → place k ≡ j
    at_first k is = ap (λ b. cond b j (cond (k == j) i k)) (eq-eqb k i is)

    at_second : (k : ℕ) → (k ≡ i → ⊥) → k ≡ j → place k ≡ i
    at_second k apart is = ap (λ b. cond b j (cond (k == j) i k)) (ne_eqb k i apart) ∙ ap (λ b. cond b i k) (eq-eqb k j is)

    elsewhere : (k : ℕ) → (k ≡ i → ⊥) → (k ≡ j → ⊥) → place k ≡ k
    elsewhere k apart other = ap (λ b. cond b j (cond (k == j) i k)) (ne_eqb k i apart) ∙ ap (λ b. cond b i k) (ne_eqb k j other)

    -- in each case of a place
    module _ (P : ℕ → Type 0) (first : (k : ℕ) → k ≡ i → P k) (second : (k : ℕ) → (k ≡ i → ⊥) → k ≡ j → P k)
        (neither : (k : ℕ) → (k ≡ i → ⊥) → (k ≡ j → ⊥) → P k) where
      by_place : (k : ℕ) → P k
      by_place k = elim (cases_eq k i) [
        | inl is ↦ first k is
        | inr apart ↦ elim (cases_eq k j) [
          | inl is ↦ second k apart is
          | inr other ↦ neither k apart other
        ]
      ]

    was : (k : ℕ) → progress_at swapped k ≡ progress_at tasks (place k)
    was = by_place (λ k. progress_at swapped k ≡ progress_at tasks (place k))
        (λ k is. ap (progress_at swapped) is ∙ moved.0 ∙ ap (progress_at tasks) (sym (at_first k is)))
        (λ k apart is. ap (progress_at swapped) is ∙ moved.1 ∙ ap (progress_at tasks) (sym (at_second k apart is)))
        (λ k apart other. moved.2 k apart other ∙ ap (progress_at tasks) (sym (elsewhere k apart other)))

    below : (k : ℕ) → k < length tasks → place k < length tasks
    below = by_place (λ k. k < length tasks → place k < length tasks)
        (λ k is h. omega (arith, at_first k is, h_j))
        (λ k apart is h. omega (arith, at_second k apart is, h_i))
        (λ k apart other h. omega (arith, elsewhere k apart other, h))

    back : (k : ℕ) → place (place k) ≡ k
    back = by_place (λ k. place (place k) ≡ k)
        (λ k is. ap place (at_first k is) ∙ elim (cases_eq j i) [
          | inl same ↦ at_first j same ∙ same ∙ sym is
          | inr apart ↦ at_second j apart refl ∙ sym is
        ])
        (λ k apart is. ap place (at_second k apart is) ∙ at_first i refl ∙ sym is)
        (λ k apart other. ap place (elsewhere k apart other) ∙ elsewhere k apart other)

    before : (k : ℕ) → k < length swapped → place k < length tasks
    before k h = below k (omega (arith, h, length-swap tasks i j))

    listed : (task : ℕ) → StandsAmong task tasks → StandsAmong task swapped
    listed task there = record {
      index = place there.index;
      within = omega (arith, below there.index there.within, length-swap tasks i j);
      is = ap (λ (p : Progress). p.task) (was (place there.index)) ∙ ap (λ k. (progress_at tasks k).task) (back there.index) ∙ there.is;
    }

    task_was : (k : ℕ) → (progress_at swapped k).task ≡ (progress_at tasks (place k)).task
    task_was k = ap (λ (p : Progress). p.task) (was k)

    are_swapped : Are swapped
    are_swapped = record {
      each = λ k h. subst (λ (p : Progress). IsOfCore system table core entries p) (sym (was k)) (are.each (place k) (before k h));
      all = λ task is on. listed task (are.all task is on);
      once = λ one other h_one h_other same.
          sym (back one)
          ∙ ap place (are.once (place one) (place other) (before one h_one) (before other h_other) (sym (task_was one) ∙ same ∙ task_was other))
          ∙ back other;
    }

  -- a list of the tasks of a core is one in any order
  pub are_in_any_order : (tasks other : List Progress) → IsPermutation tasks other → Are tasks → Are other
  are_in_any_order tasks other same are = IsPermutation-keeps tasks Are are are_swapped other same
