-- Tests of each number of a range, and of some of those that pass another test, in words; and the
-- first that is found.
use Rattle.std.proofs.Common.{◌≡◌, ℕ, ◌+◌, ◌-◌, ◌<◌, ◌≤◌, inl, inr, Bool, true, false, cond, ◌&&◌, ◌||◌, Some, None, List, [], ◌∷◌, length, get_or, refl, sym, ap, ◌∙◌, subst, arith}
use Rattle.std.specs.Prelude.{find}
use Rattle.std.specs.List.{filter, list_all, list_any, range_with_len}
use Rattle.std.proofs.lemmas.Bool.{and_parts, and_from, cases_lt, true≢false}
use Rattle.std.proofs.lemmas.List.FromFn.{get_or-range_with_len, length-range_with_len}
use Rattle.std.proofs.lemmas.List.Folds.{Any-from_list_any, list_any_at}
use Rattle.std.proofs.lemmas.List.Sums.{AllPass-from_list_all, list_all-from_AllPass}
use Rattle.cl_runs.proofs.FirstFound.{first_found, none_passes}

module _ (test : ℕ → Bool) (from count : ℕ) where
  -- the number at its place
  placed : (x d : ℕ) → from ≤ x → x < from + count → get_or (range_with_len from count) (x - from) d ≡ x
  placed x d after below =
      let within : x - from < count = omega (arith, after, below) in
      let back : from + (x - from) ≡ x = omega (arith, after) in
      get_or-range_with_len from count (x - from) d within ∙ back

  place_within : (x : ℕ) → from ≤ x → x < from + count → x - from < length (range_with_len from count)
  place_within x after below = omega (arith, after, below, length-range_with_len from count)

  -- where each number passes, so does one of them
  pub each_passes : list_all test (range_with_len from count) ≡ true → (x : ℕ) → from ≤ x → x < from + count → test x ≡ true
  each_passes all x after below =
      subst (λ y. test y ≡ true) (placed x 0 after below)
      (AllPass-from_list_all test (range_with_len from count) all (x - from) 0 (place_within x after below))

  -- and the converse
  pub all_pass : ((x : ℕ) → from ≤ x → x < from + count → test x ≡ true) → list_all test (range_with_len from count) ≡ true
  all_pass each = list_all-from_AllPass test (range_with_len from count) (λ k d within.
      let inside : k < count = omega (arith, within, length-range_with_len from count) in
      subst (λ y. test y ≡ true) (sym (get_or-range_with_len from count k d inside)) (each (from + k) (omega arith) (omega (arith, inside))))

  -- where some number passes, there is one
  one_passes : list_any test (range_with_len from count) ≡ true → (x : ℕ) × (from ≤ x) × (x < from + count) × (test x ≡ true)
  one_passes some =
      let (k, x, within, is, passes) = Any-from_list_any test (range_with_len from count) some in
      let inside : k < count = omega (arith, within, length-range_with_len from count) in
      let at : from + k ≡ x = sym (get_or-range_with_len from count k x inside) ∙ is in
      (x, omega (arith, at), omega (arith, at, inside), passes)

  -- and the converse
  some_passes : (x : ℕ) → from ≤ x → x < from + count → test x ≡ true → list_any test (range_with_len from count) ≡ true
  some_passes x after below passes =
      list_any_at test (range_with_len from count) (x - from) 0 (place_within x after below)
      (subst (λ y. test y ≡ true) (sym (placed x 0 after below)) passes)

  -- where none is found, one that passes isn't in the range
  pub found_none : {P : Type 0} → find test (range_with_len from count) ≡ None → (x : ℕ) → from ≤ x → x < from + count → test x ≡ true → P
  found_none none x after below passes = absurd (true≢false (sym passes ∙ subst (λ y. test y ≡ false) (placed x 0 after below)
      (none_passes test (range_with_len from count) none (x - from) 0 (place_within x after below))))

  -- what is found is in the range, passes, and is the first that does
  module _ (found : ℕ) (is : find test (range_with_len from count) ≡ Some found) where
    found_at : (first : ℕ) × (from + first ≡ found) × (first < count)
    found_at =
        let first = first_found test (range_with_len from count) found is in
        let inside : first.place < count = omega (arith, first.within, length-range_with_len from count) in
        (first.place, sym (get_or-range_with_len from count first.place 0 inside) ∙ first.is 0, inside)

    pub found_from : from ≤ found
    found_from = omega (arith, found_at.1)

    pub found_below : found < from + count
    found_below = omega (arith, found_at.1, found_at.2)

    pub found_passes : test found ≡ true
    found_passes = (first_found test (range_with_len from count) found is).passes

    pub found_first : (x : ℕ) → from ≤ x → test x ≡ true → found ≤ x
    found_first x after passes = elim (cases_lt x found) [
      | inl less ↦
          let first = first_found test (range_with_len from count) found is in
          let inside : first.place < count = omega (arith, first.within, length-range_with_len from count) in
          let at : from + first.place ≡ found = sym (get_or-range_with_len from count first.place 0 inside) ∙ first.is 0 in
          absurd (true≢false (sym passes ∙ subst (λ y. test y ≡ false) (placed x 0 after (omega (arith, less, at, inside)))
          (first.fails_before (x - from) 0 (omega (arith, after, less, at)))))
      | inr more ↦ more
    ]

-- to test those that pass another test
filtered : (test which : ℕ → Bool) (xs : List ℕ) → list_any test (filter which xs) ≡ list_any (λ x. which x && test x) xs
filtered test which [] = refl
filtered test which (x ∷ xs) =
    let rest = filtered test which xs in
    elim (which x) as (λ b. list_any test (cond b (x ∷ filter which xs) (filter which xs)) ≡ ((b && test x) || list_any (λ y. which y && test y) xs)) [
      | true ↦ ap (λ b. test x || b) rest
      | false ↦ rest
    ]

module _ (test which : ℕ → Bool) (from count : ℕ) where
  -- where one of those passes, some does
  pub some_of_them_passes : (x : ℕ) → from ≤ x → x < from + count → which x ≡ true → test x ≡ true
      → list_any test (filter which (range_with_len from count)) ≡ true
  some_of_them_passes x after below is passes =
      filtered test which (range_with_len from count)
      ∙ some_passes (λ y. which y && test y) from count x after below (and_from (which x) (test x) is passes)

  -- and the converse
  pub one_of_them_passes : list_any test (filter which (range_with_len from count)) ≡ true
      → (x : ℕ) × (from ≤ x) × (x < from + count) × (which x ≡ true) × (test x ≡ true)
  one_of_them_passes some =
      let (x, after, below, both) = one_passes (λ y. which y && test y) from count (sym (filtered test which (range_with_len from count)) ∙ some) in
      let parts = and_parts (which x) (test x) both in
      (x, after, below, parts.0, parts.1)
