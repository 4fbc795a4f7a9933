-- Lists that are made item by item, each item by its number.
use Rattle.std.proofs.Common.{◌≡◌, ℕ, ◌+◌, ◌<◌, List, [], ◌∷◌, ◌++◌, length, get_or, sym, ap, ◌∙◌, subst, arith, below_more}
use Rattle.std.proofs.lemmas.List.{length-append, get_or_append_left, get_or_push}

-- as many items as this, each with the fact of its number
pub record AreMade {X : Type 0} (fact : ℕ → X → Type 0) (d : X) (n : ℕ) (made : List X) : Type 0 where
  pub count : length made ≡ n
  pub each : (k : ℕ) → k < n → fact k (get_or made k d)

pub one_more_made : {X : Type 0} (fact : ℕ → X → Type 0) (d : X) (n : ℕ) (old new : List X) (next : X) → AreMade fact d n old → fact n next
    → new ≡ old ++ next ∷ [] → AreMade fact d (n + 1) new
one_more_made fact d n old new next made is pushed =
    let count = made.count in
    record {
      count = omega (arith, ap length pushed, length-append old (next ∷ []), count);
      each = below_more (λ k. fact k (get_or new k d)) n
          (λ k h. subst (fact k) (sym (ap (λ list. get_or list k d) pushed ∙ get_or_append_left old (next ∷ []) d k (omega (arith, h, count)))) (made.each k h))
          (subst (fact n) (sym (ap (λ list. get_or list n d) pushed ∙ get_or_push old next d n count)) is);
    }
