-- One step of filling an order: the first task that fits is placed, and the rest is the order of the unplaced.
use Rattle.std.proofs.Common.{◌≡◌, ℕ, suc, Bool, max, Option, Some, None, List, [], ◌∷◌, ◌++◌, refl, sym, ap, ◌∙◌, subst, append_assoc}
use Rattle.std.specs.Prelude.{All, find}
use Rattle.std.specs.Option.{option_map, option_and_then}
use Rattle.std.proofs.lemmas.List.{append-nil}
use Rattle.cl_runs.specs.TaskTiming.{System, timing_at}
use Rattle.cl_runs.proofs.FirstFound.{first_found}
use Rattle.cl_resp.specs.Question.{longest_hold}
use Rattle.cl_tune.specs.Inner.Filling.{without, fits, best_order}

-- what is found is in the list
pub found_known : (P : ℕ → Type 0) (test : ℕ → Bool) (items : List ℕ) (x : ℕ) → All P items → find test items ≡ Some x → P x
found_known P test items x all is =
    let found = first_found test items x is in
    subst P (found.is 0) (all found.place 0 found.within)

-- the rest of an order is put behind what is placed already
abbrev pub behind : List ℕ → Option (List ℕ) → Option (List ℕ)
behind placed rest = option_map (λ order. placed ++ order) rest

behind_one : (placed : List ℕ) (task : ℕ) (rest : Option (List ℕ))
    → behind placed (option_map (λ order. task ∷ order) rest) ≡ behind (placed ++ task ∷ []) rest
behind_one placed task None = refl
behind_one placed task (Some order) = ap (λ xs. Some xs) (sym (append_assoc placed (task ∷ []) order))

module _ (system : System) (whole : Option (List ℕ)) (placed : List ℕ) (count left block : ℕ) (unplaced : List ℕ) (more : count ≡ suc left)
    (so_far : whole ≡ behind placed (best_order system count block unplaced)) where
  step : whole ≡ behind placed (best_order system (suc left) block unplaced)
  step = so_far ∙ ap (λ n. behind placed (best_order system n block unplaced)) more

  pub none_fits : find (fits system block unplaced) unplaced ≡ None → whole ≡ None
  none_fits none = step ∙ ap (λ (found : Option ℕ). behind placed (option_and_then (λ task. option_map (λ order. task ∷ order)
      (best_order system left (max block (longest_hold (timing_at system task))) (without task unplaced))) found)) none

  pub one_fits : (task : ℕ) → find (fits system block unplaced) unplaced ≡ Some task
      → whole ≡ behind (placed ++ task ∷ []) (best_order system left (max block (longest_hold (timing_at system task))) (without task unplaced))
  one_fits task is =
      step
      ∙ ap (λ (found : Option ℕ). behind placed (option_and_then (λ task. option_map (λ order. task ∷ order)
      (best_order system left (max block (longest_hold (timing_at system task))) (without task unplaced))) found)) is
      ∙ behind_one placed task (best_order system left (max block (longest_hold (timing_at system task))) (without task unplaced))

pub all_placed : (system : System) (whole : Option (List ℕ)) (placed : List ℕ) (count block : ℕ) (unplaced : List ℕ) → count ≡ 0
    → whole ≡ behind placed (best_order system count block unplaced) → whole ≡ Some placed
all_placed system whole placed count block unplaced none so_far =
    so_far ∙ ap (λ n. behind placed (best_order system n block unplaced)) none ∙ ap (λ xs. Some xs) (append-nil placed)
