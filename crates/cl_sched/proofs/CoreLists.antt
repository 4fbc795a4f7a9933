-- The numbers that pass a test, in order: each is there once.
use Rattle.std.proofs.Common.{◌≡◌, ℕ, zero, suc, ◌+◌, ◌<◌, ◌≤◌, ◌⊎◌, inl, inr, Bool, true, false, cond, List, [], ◌∷◌, ◌++◌, length, get_or, refl, sym, ap, ◌∙◌, subst, arith}
use Rattle.std.specs.Prelude.{filter}
use Rattle.std.specs.List.{range_with_len}
use Rattle.std.proofs.lemmas.Bool.{cases_lt}
use Rattle.std.proofs.lemmas.List.{append-nil, length_push, get_or_push, get_or_append_left, map-id}
use Rattle.std.proofs.lemmas.List.FromFn.{filter_of_map_range_with_len_more}

module _ (passes : ℕ → Bool) where
  abbrev pub passing : ℕ → List ℕ
  passing n = filter passes (range_with_len 0 n)

  more : (n : ℕ) → passing (n + 1) ≡ passing n ++ cond (passes n) (n ∷ []) []
  more n = ap (filter passes) (sym (map-id (range_with_len 0 (n + 1)))) ∙ filter_of_map_range_with_len_more passes (λ i. i) 0 n n (omega arith)
      ∙ ap (λ l. filter passes l ++ cond (passes n) (n ∷ []) []) (map-id (range_with_len 0 n))

  -- the first numbers, or those and one more that passes
  abbrev Grown : ℕ → Type 0
  Grown n = ((passes n ≡ false) × (passing (suc n) ≡ passing n)) ⊎ ((passes n ≡ true) × (passing (suc n) ≡ passing n ++ n ∷ []))

  grown_by : (n : ℕ) (b : Bool) → passes n ≡ b → passing (n + 1) ≡ passing n ++ cond b (n ∷ []) [] → n + 1 ≡ suc n → Grown n
  grown_by n true is e next = inr (is, ap passing (sym next) ∙ e)
  grown_by n false is e next = inl (is, ap passing (sym next) ∙ e ∙ append-nil (passing n))

  grown : (n : ℕ) → Grown n
  grown n = grown_by n (passes n) refl (more n) (omega arith)

  -- where a number stands
  pub record IsThere (n i : ℕ) : Type 0 where
    pub index : ℕ
    pub within : index < length (passing n)
    pub is : get_or (passing n) index 0 ≡ i

  moved : (n m i : ℕ) → passing m ≡ passing n → IsThere n i → IsThere m i
  moved n m i e at = record {
    index = at.index;
    within = omega (arith, at.within, ap length e);
    is = ap (λ (l : List ℕ). get_or l at.index 0) e ∙ at.is;
  }

  before : (n i : ℕ) → passing (suc n) ≡ passing n ++ n ∷ [] → IsThere n i → IsThere (suc n) i
  before n i e at = record {
    index = at.index;
    within = omega (arith, at.within, ap length e, length_push (passing n) n);
    is = ap (λ (l : List ℕ). get_or l at.index 0) e ∙ get_or_append_left (passing n) (n ∷ []) 0 at.index at.within ∙ at.is;
  }

  last : (n : ℕ) → passing (suc n) ≡ passing n ++ n ∷ [] → IsThere (suc n) n
  last n e = record {
    index = length (passing n);
    within = omega (arith, ap length e, length_push (passing n) n);
    is = ap (λ (l : List ℕ). get_or l (length (passing n)) 0) e ∙ get_or_push (passing n) n 0 (length (passing n)) refl;
  }

  -- each number that passes is there
  pub passing_there : (n i : ℕ) → i < n → passes i ≡ true → IsThere n i
  passing_there zero i h pass = absurd (omega arith)
  passing_there (suc n) i h pass = elim (cases_lt i n) [
    | inl earlier ↦ there_before (grown n) (passing_there n i earlier pass)
    | inr this ↦ let same : n ≡ i = omega arith in there_last same (grown n)
  ]
    where
      there_before : Grown n → IsThere n i → IsThere (suc n) i
      there_before (inl kept) at = moved n (suc n) i kept.1 at
      there_before (inr one) at = before n i one.1 at

      there_last : n ≡ i → Grown n → IsThere (suc n) i
      there_last same (inl kept) = absurd (not_both (sym (ap passes same) ∙ kept.0))
        where
          not_both : passes i ≡ false → ⊥
          not_both no_pass = let e : true ≡ false = sym pass ∙ no_pass in cc
      there_last same (inr one) = subst (λ k. IsThere (suc n) k) same (last n one.1)

  -- each is below the end and passes
  abbrev IsFine : ℕ → ℕ → Type 0
  IsFine n i = (i < n) × (passes i ≡ true)

  fine_along : (n m : ℕ) (i j : ℕ) → i ≡ j → n ≤ m → IsFine n i → IsFine m j
  fine_along n m i j same le fine = (omega (arith, fine.0), ap passes (sym same) ∙ fine.1)

  fine_in : (n k : ℕ) → Grown n → ((j : ℕ) → j < length (passing n) → IsFine n (get_or (passing n) j 0))
      → k < length (passing (suc n)) → IsFine (suc n) (get_or (passing (suc n)) k 0)
  fine_in n k (inl kept) fine h = fine_along n (suc n) _ _ (ap (λ (l : List ℕ). get_or l k 0) (sym kept.1)) (omega arith)
      (fine k (omega (arith, h, ap length kept.1)))
  fine_in n k (inr one) fine h = elim (cases_lt k (length (passing n))) [
    | inl earlier ↦ fine_along n (suc n) _ _
        (sym (ap (λ (l : List ℕ). get_or l k 0) one.1 ∙ get_or_append_left (passing n) (n ∷ []) 0 k earlier)) (omega arith) (fine k earlier)
    | inr this ↦
        let at : k ≡ length (passing n) = omega (arith, this, h, ap length one.1, length_push (passing n) n) in
        let is : n ≡ get_or (passing (suc n)) k 0 = sym (ap (λ (l : List ℕ). get_or l k 0) one.1 ∙ get_or_push (passing n) n 0 k (sym at)) in
        (omega (arith, is), ap passes (sym is) ∙ one.0)
  ]

  pub passing_fine : (n k : ℕ) → k < length (passing n) → IsFine n (get_or (passing n) k 0)
  passing_fine zero k h = absurd (omega arith)
  passing_fine (suc n) k h = fine_in n k (grown n) (passing_fine n) h

  -- they rise
  rise_in : (n k l : ℕ) → Grown n → ((i j : ℕ) → i < j → j < length (passing n) → get_or (passing n) i 0 < get_or (passing n) j 0)
      → k < l → l < length (passing (suc n)) → get_or (passing (suc n)) k 0 < get_or (passing (suc n)) l 0
  rise_in n k l (inl kept) rise h below = omega (
    arith,
    ap (λ (xs : List ℕ). get_or xs k 0) kept.1,
    ap (λ (xs : List ℕ). get_or xs l 0) kept.1,
    rise k l h (omega (arith, below, ap length kept.1)),
  )
  rise_in n k l (inr one) rise h below =
      let long : length (passing (suc n)) ≡ suc (length (passing n)) = omega (arith, ap length one.1, length_push (passing n) n) in
      let first = ap (λ (xs : List ℕ). get_or xs k 0) one.1 ∙ get_or_append_left (passing n) (n ∷ []) 0 k (omega (arith, h, below, long)) in
      elim (cases_lt l (length (passing n))) [
        | inl earlier ↦ omega (
          arith,
          first,
          ap (λ (xs : List ℕ). get_or xs l 0) one.1 ∙ get_or_append_left (passing n) (n ∷ []) 0 l earlier,
          rise k l h earlier,
        )
        | inr this ↦
            let at : length (passing n) ≡ l = omega (arith, this, below, long) in
            omega (
              arith,
              first,
              ap (λ (xs : List ℕ). get_or xs l 0) one.1 ∙ get_or_push (passing n) n 0 l at,
              (passing_fine n k (omega (arith, h, at))).0,
            )
      ]

  pub passing_rise : (n k l : ℕ) → k < l → l < length (passing n) → get_or (passing n) k 0 < get_or (passing n) l 0
  passing_rise zero k l h below = absurd (omega arith)
  passing_rise (suc n) k l h below = rise_in n k l (grown n) (passing_rise n) h below
