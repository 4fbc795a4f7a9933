-- The first element of a list that passes a test: what `find` finds, and that it finds none where none passes.
use Rattle.std.proofs.Common.{◌≡◌, ℕ, ◌<◌, Bool, true, false, inl, inr, Some, None, List, [], ◌∷◌, length, get_or, take, refl, sym, ap, ◌∙◌, subst, arith}
use Rattle.std.specs.Prelude.{All, slice_get, find}
use Rattle.std.specs.List.{position_or_len}
use Rattle.std.proofs.lemmas.Bool.{cases_lt, cond-false}
use Rattle.std.proofs.lemmas.List.{get_or-take, length-take}
use Rattle.std.proofs.lemmas.List.Elements.{All-tail}
use Rattle.std.proofs.lemmas.List.Folds.{find_at}
use Rattle.std.proofs.lemmas.List.Sums.{position_or_len_is, fails_before_first, passes_at_first}
use Rattle.std.proofs.lemmas.Option.{none-some, slice_get-get_or, slice_get_within, get_or_from_slice_get}

-- the element stands at a place of the list and passes, and none before it does
pub record IsFirstFound {X : Type 0} (test : X → Bool) (items : List X) (found : X) : Type 0 where
  pub place : ℕ
  pub within : place < length items
  pub is : (d : X) → get_or items place d ≡ found
  pub passes : test found ≡ true
  pub fails_before : (k : ℕ) (d : X) → k < place → test (get_or items k d) ≡ false

module _ {X : Type 0} (test : X → Bool) (items : List X) where
  -- what is found is the first that passes
  pub first_found : (found : X) → find test items ≡ Some found → IsFirstFound test items found
  first_found found is =
      let at : slice_get items (position_or_len test items) ≡ Some found = sym (find_at test items) ∙ is in
      let within = slice_get_within items (position_or_len test items) found at in
      record {
        place = position_or_len test items;
        within = within;
        is = λ d. get_or_from_slice_get items (position_or_len test items) found d at;
        passes = subst (λ x. test x ≡ true) (get_or_from_slice_get items (position_or_len test items) found found at) (passes_at_first test items found within);
        fails_before = fails_before_first test items;
      }

  -- where none is found, none passes
  pub none_passes : find test items ≡ None → All (λ x. test x ≡ false) items
  none_passes none k d within = elim (cases_lt (position_or_len test items) (length items)) [
    | inl below ↦ absurd (none-some (get_or items (position_or_len test items) d)
        (sym none ∙ find_at test items ∙ slice_get-get_or items (position_or_len test items) d below))
    | inr past ↦ fails_before_first test items k d (omega (arith, within, past))
  ]

  -- the element at a place is found where it passes, and none before it does
  pub finds_first : (i : ℕ) (d : X) → i < length items → All (λ x. test x ≡ false) (take i items) → test (get_or items i d) ≡ true
      → find test items ≡ Some (get_or items i d)
  finds_first i d within before passes =
      let place : position_or_len test items ≡ i = position_or_len_is test items i d (omega (arith, within))
      (λ k below. subst (λ x. test x ≡ false) (get_or-take i items k d below) (before k d (omega (arith, length-take i items, below, within))))
      (λ _. passes) in
      find_at test items ∙ ap (slice_get items) place ∙ slice_get-get_or items i d within

-- where none passes, none is found
pub finds_none : {X : Type 0} (test : X → Bool) (items : List X) → All (λ x. test x ≡ false) items → find test items ≡ None
finds_none test [] none = refl
finds_none test (x ∷ items) none =
    cond-false (test x) (Some x) (find test items) (none 0 x (omega arith)) ∙ finds_none test items (All-tail (λ y. test y ≡ false) x items none)
