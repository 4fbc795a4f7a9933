-- Tests of each number of a range, and of some number of it, in words.
use Rattle.std.proofs.Common.{◌≡◌, ℕ, ◌+◌, ◌-◌, ◌<◌, ◌≤◌, Bool, true, false, not, cond, ◌&&◌, ◌||◌, List, [], ◌∷◌, length, get_or, refl, sym, ap, ◌∙◌, subst, arith}
use Rattle.std.specs.List.{filter, list_all, list_any, range_with_len}
use Rattle.std.proofs.lemmas.Bool.{false≢true}
use Rattle.std.proofs.lemmas.List.FromFn.{get_or-range_with_len, length-range_with_len}
use Rattle.std.proofs.lemmas.List.Folds.{Any-from_list_any, list_any_at}
use Rattle.std.proofs.lemmas.List.Sums.{AllPass-from_list_all, list_all-from_AllPass}

module _ (test : ℕ → Bool) (from count : ℕ) where
  -- the number at its place
  placed : (x d : ℕ) → from ≤ x → x < from + count → get_or (range_with_len from count) (x - from) d ≡ x
  placed x d after below =
      let within : x - from < count = omega (arith, after, below) in
      let back : from + (x - from) ≡ x = omega (arith, after) in
      get_or-range_with_len from count (x - from) d within ∙ back

  place_within : (x : ℕ) → from ≤ x → x < from + count → x - from < length (range_with_len from count)
  place_within x after below = omega (arith, after, below, length-range_with_len from count)

  -- where each number passes, so does one of them
  pub each_passes : list_all test (range_with_len from count) ≡ true → (x : ℕ) → from ≤ x → x < from + count → test x ≡ true
  each_passes all x after below =
      subst (λ y. test y ≡ true) (placed x 0 after below)
      (AllPass-from_list_all test (range_with_len from count) all (x - from) 0 (place_within x after below))

  -- and the converse
  pub all_pass : ((x : ℕ) → from ≤ x → x < from + count → test x ≡ true) → list_all test (range_with_len from count) ≡ true
  all_pass each = list_all-from_AllPass test (range_with_len from count) (λ k d within.
      let inside : k < count = omega (arith, within, length-range_with_len from count) in
      subst (λ y. test y ≡ true) (sym (get_or-range_with_len from count k d inside)) (each (from + k) (omega arith) (omega (arith, inside))))

  -- where some number passes, there is one
  pub one_passes : list_any test (range_with_len from count) ≡ true → (x : ℕ) × (from ≤ x) × (x < from + count) × (test x ≡ true)
  one_passes some =
      let (k, x, within, is, passes) = Any-from_list_any test (range_with_len from count) some in
      let inside : k < count = omega (arith, within, length-range_with_len from count) in
      let at : from + k ≡ x = sym (get_or-range_with_len from count k x inside) ∙ is in
      (x, omega (arith, at), omega (arith, at, inside), passes)

  -- and the converse
  pub some_passes : (x : ℕ) → from ≤ x → x < from + count → test x ≡ true → list_any test (range_with_len from count) ≡ true
  some_passes x after below passes =
      list_any_at test (range_with_len from count) (x - from) 0 (place_within x after below)
      (subst (λ y. test y ≡ true) (sym (placed x 0 after below)) passes)

-- to test those that pass another test
filtered : (test which : ℕ → Bool) (xs : List ℕ) → list_all test (filter which xs) ≡ list_all (λ x. not (which x) || test x) xs
filtered test which [] = refl
filtered test which (x ∷ xs) =
    let rest = filtered test which xs in
    elim (which x) as (λ b. list_all test (cond b (x ∷ filter which xs) (filter which xs)) ≡ ((not b || test x) && list_all (λ y. not (which y) || test y) xs)) [
      | true ↦ ap (λ b. test x && b) rest
      | false ↦ rest
    ]

implies_from : (a b : Bool) → (not a || b) ≡ true → a ≡ true → b ≡ true
implies_from true b both is = both
implies_from false b both is = absurd (false≢true is)

implies_to : (a b : Bool) → (a ≡ true → b ≡ true) → (not a || b) ≡ true
implies_to true b goes = goes refl
implies_to false b goes = refl

module _ (test which : ℕ → Bool) (from count : ℕ) where
  -- where each of those passes, so does one of them
  pub each_of_them_passes : list_all test (filter which (range_with_len from count)) ≡ true → (x : ℕ) → from ≤ x → x < from + count
      → which x ≡ true → test x ≡ true
  each_of_them_passes all x after below is =
      implies_from (which x) (test x)
      (each_passes (λ y. not (which y) || test y) from count (sym (filtered test which (range_with_len from count)) ∙ all) x after below) is

  -- and the converse
  pub all_of_them_pass : ((x : ℕ) → from ≤ x → x < from + count → which x ≡ true → test x ≡ true)
      → list_all test (filter which (range_with_len from count)) ≡ true
  all_of_them_pass each =
      filtered test which (range_with_len from count)
      ∙ all_pass (λ y. not (which y) || test y) from count (λ x after below. implies_to (which x) (test x) (each x after below))
