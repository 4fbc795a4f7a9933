-- Lists with one item more.
use Rattle.std.proofs.Common.{◌≡◌, ℕ, suc, ◌+◌, ◌<◌, inl, inr, List, [], ◌∷◌, ◌++◌, length, get_or, sym, subst, arith, length-append}
use Rattle.std.proofs.lemmas.Bool.{cases_lt}
use Rattle.std.proofs.lemmas.List.{get_or_append_left, get_or_push}

module _ {X : Type 0} (xs : List X) (x d : X) where
  pub count_pushed : length (xs ++ x ∷ []) ≡ length xs + 1
  count_pushed = length-append xs (x ∷ [])

  pub kept : (k : ℕ) → k < length xs → get_or (xs ++ x ∷ []) k d ≡ get_or xs k d
  kept k h = get_or_append_left xs (x ∷ []) d k h

  pub added : (k : ℕ) → length xs ≡ k → get_or (xs ++ x ∷ []) k d ≡ x
  added k h = get_or_push xs x d k h

  -- what is so of each item and of the new one
  pub each_pushed : (P : X → Type 0) → ((k : ℕ) → k < length xs → P (get_or xs k d)) → P x
      → (k : ℕ) → k < length (xs ++ x ∷ []) → P (get_or (xs ++ x ∷ []) k d)
  each_pushed P each last k h = elim (cases_lt k (length xs)) [
    | inl before ↦ subst P (sym (kept k before)) (each k before)
    | inr not ↦ let here : length xs ≡ k = omega (arith, not, h, count_pushed) in subst P (sym (added k here)) last
  ]

  -- what is so of neighbours, and of the last item and the new one
  pub neighbours_pushed : (R : X → X → Type 0) → ((k : ℕ) → suc k < length xs → R (get_or xs k d) (get_or xs (suc k) d))
      → ((k : ℕ) → suc k ≡ length xs → R (get_or xs k d) x)
      → (k : ℕ) → suc k < length (xs ++ x ∷ []) → R (get_or (xs ++ x ∷ []) k d) (get_or (xs ++ x ∷ []) (suc k) d)
  neighbours_pushed R each last k h = elim (cases_lt (suc k) (length xs)) [
    | inl before ↦ subst (λ y. R y (get_or (xs ++ x ∷ []) (suc k) d)) (sym (kept k (omega (arith, before))))
        (subst (λ y. R (get_or xs k d) y) (sym (kept (suc k) before)) (each k before))
    | inr not ↦
        let here : length xs ≡ suc k = omega (arith, not, h, count_pushed) in
        subst (λ y. R y (get_or (xs ++ x ∷ []) (suc k) d)) (sym (kept k (omega (arith, here))))
        (subst (λ y. R (get_or xs k d) y) (sym (added (suc k) here)) (last k (sym here)))
  ]
