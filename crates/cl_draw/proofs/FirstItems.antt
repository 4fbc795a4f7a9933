-- Lists of which the item of each number is what it has to be, one item after the other.
use Rattle.std.proofs.Common.{◌≡◌, ℕ, ◌+◌, ◌<◌, List, [], ◌∷◌, ◌++◌, length, get_or, refl, sym, ap, subst, ◌∙◌, arith, below_more}
use Rattle.cl_draw.proofs.Pushed.{count_pushed, kept, added}

pub record AreFirst {X : Type 0} (Is : ℕ → X → Type 0) (d : X) (n : ℕ) (xs : List X) : Type 0 where
  pub count : length xs ≡ n
  pub each : (i : ℕ) → i < n → Is i (get_or xs i d)

module _ {X : Type 0} (Is : ℕ → X → Type 0) (d : X) where
  pub none_first : AreFirst Is d 0 []
  none_first = record { count = refl; each = λ i below. absurd (omega (arith, below)) }

  pub one_more_first : (n : ℕ) (old new : List X) (x : X) → AreFirst Is d n old → Is n x → new ≡ old ++ x ∷ [] → AreFirst Is d (n + 1) new
  one_more_first n old new x first is pushed = record {
    count = ap length pushed ∙ count_pushed old x d ∙ ap (λ m. m + 1) first.count;
    each = below_more _ _
        (λ i below. subst (Is i) (sym (ap (λ (xs : List X). get_or xs i d) pushed ∙ kept old x d i (omega (arith, below, first.count)))) (first.each i below))
        (subst (Is n) (sym (ap (λ (xs : List X). get_or xs n d) pushed ∙ added old x d n first.count)) is);
  }
