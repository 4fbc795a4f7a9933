-- A list that is mapped over numbers in a row, one number longer.
use Rattle.std.proofs.Common.{◌≡◌, ℕ, ◌+◌, List, [], ◌∷◌, ◌++◌, map, sym, ap, ◌∙◌}
use Rattle.std.specs.List.{range_with_len}
use Rattle.std.proofs.lemmas.List.FromFn.{map-range_with_len_more}

pub mapped_more : {X : Type 0} (f : ℕ → X) (a n j : ℕ) (xs more : List X) (y : X) → a + n ≡ j → xs ≡ map f (range_with_len a n) → y ≡ f j
    → more ≡ xs ++ y ∷ [] → more ≡ map f (range_with_len a (n + 1))
mapped_more f a n j xs more y at are is longer = longer ∙ ap (λ list. list ++ y ∷ []) are
    ∙ ap (λ z. map f (range_with_len a n) ++ z ∷ []) is ∙ sym (map-range_with_len_more f a n j at)
