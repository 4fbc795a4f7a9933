-- Texts that are made of pieces, one for each number below one.
use Rattle.std.proofs.Common.{◌≡◌, ℕ, zero, suc, ◌+◌, List, [], ◌++◌, refl, sym, ap, subst, ◌∙◌}
use Rattle.std.proofs.lemmas.List.{append_assoc, append-nil}
use Rattle.std.proofs.Math.Numerals.{add-one}
use Rattle.cl_observe.specs.Observed.{GoesOnWith, IsMadeOf}

module _ (Is : ℕ → List ℕ → Type 0) where
  -- a text has no pieces yet
  pub none_made : (old : List ℕ) → GoesOnWith (IsMadeOf Is 0) old old
  none_made old = record { piece = []; is = refl; joined = sym (append-nil old) }

  -- one piece more
  pub more_made : (n : ℕ) (old now new : List ℕ) → GoesOnWith (IsMadeOf Is n) old now → GoesOnWith (Is n) now new → GoesOnWith (IsMadeOf Is (n + 1)) old new
  more_made n old now new made next = record {
    piece = made.piece ++ next.piece;
    is = subst (λ k. IsMadeOf Is k (made.piece ++ next.piece)) (sym (add-one n))
        (made.piece, made.is, record { piece = next.piece; is = next.is; joined = refl });
    joined = next.joined ∙ ap (λ t. t ++ next.piece) made.joined ∙ append_assoc old made.piece next.piece;
  }

  -- where each piece is one, so is the text
  pub made_once : ((k : ℕ) (one other : List ℕ) → Is k one → Is k other → one ≡ other) → (n : ℕ) (one other : List ℕ) → IsMadeOf Is n one → IsMadeOf Is n other
      → one ≡ other
  made_once each zero one other first second = first ∙ sym second
  made_once each (suc n) one other (before, made, goes) (again, also, more) =
      goes.joined ∙ ap (λ t. t ++ goes.piece) (made_once each n before again made also) ∙ ap (λ t. again ++ t) (each n goes.piece more.piece goes.is more.is)
      ∙ sym more.joined
