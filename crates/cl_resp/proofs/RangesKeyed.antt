-- Tasks with keys: those so far are in file order, and a permutation of all of them has each task.
use Rattle.std.proofs.Common.{◌≡◌, ℕ, ◌+◌, List, [], ◌∷◌, ◌++◌, map, sym, ap, subst, ◌∙◌, arith}
use Rattle.std.specs.Prelude.{IsPermutation}
use Rattle.std.specs.List.{range_with_len}
use Rattle.std.proofs.lemmas.List.{map-append, map-id}
use Rattle.std.proofs.lemmas.List.FromFn.{map-range_with_len_more}
use Rattle.std.proofs.lemmas.List.Sorted.{IsPermutation-map}

-- a task behind two keys
abbrev pub task_in : ℕ × ℕ × ℕ → ℕ
task_in keyed = keyed.2

pub one_more_keyed : (task : ℕ) (old new : List (ℕ × ℕ × ℕ)) (next : ℕ × ℕ × ℕ) → map task_in old ≡ range_with_len 0 task → next.2 ≡ task
    → new ≡ old ++ next ∷ [] → map task_in new ≡ range_with_len 0 (task + 1)
one_more_keyed task old new next was is pushed =
    ap (map task_in) pushed ∙ map-append task_in old (next ∷ []) ∙ ap (λ l. l ++ task_in next ∷ []) was ∙ ap (λ k. range_with_len 0 task ++ k ∷ []) is
    ∙ ap (λ l. l ++ task ∷ []) (sym (map-id (range_with_len 0 task))) ∙ sym (map-range_with_len_more (λ (k : ℕ). k) 0 task task (omega arith)) ∙ map-id (range_with_len 0 (task + 1))

pub keyed_permuted : (count : ℕ) (keyed sorted : List (ℕ × ℕ × ℕ)) (tasks : List ℕ) → map task_in keyed ≡ range_with_len 0 count → IsPermutation keyed sorted
    → tasks ≡ map task_in sorted → IsPermutation (range_with_len 0 count) tasks
keyed_permuted count keyed sorted tasks are permuted is =
    subst (λ (l : List ℕ). IsPermutation (range_with_len 0 count) l) (sym is)
    (subst (λ (l : List ℕ). IsPermutation l (map task_in sorted)) are (IsPermutation-map task_in keyed sorted permuted))
