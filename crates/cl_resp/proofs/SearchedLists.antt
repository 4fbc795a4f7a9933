-- Tests of consecutive numbers: of all of them, of those that pass another test, of any, and the first that passes.
use Rattle.std.proofs.Common.{◌≡◌, ℕ, zero, suc, ◌+◌, ◌<◌, ◌≤◌, ◌⊎◌, inl, inr, Bool, true, false, cond, ◌&&◌, ◌||◌, ◌∷◌, refl, sym, ap, ◌∙◌, arith}
use Rattle.std.specs.Prelude.{Some, None, find, filter}
use Rattle.std.specs.List.{list_all, list_any, range_with_len}
use Rattle.std.proofs.lemmas.Bool.{cases_lt, true≢false}

-- a number is one of so many from another on: that one, or one of the rest
first_or_rest : (from n k : ℕ) → from ≤ k → k < from + suc n → (k ≡ from) ⊎ ((from + 1 ≤ k) × (k < from + 1 + n))
first_or_rest from n k after before = elim (cases_lt from k) [
  | inl later ↦ inr (omega (arith, later), omega (arith, before))
  | inr same ↦ inl (omega (arith, same, after))
]

-- none is one of no numbers
none_there : (from k : ℕ) → from ≤ k → k < from + 0 → ⊥
none_there from k after before = omega (arith, after, before)

module _ (test : ℕ → Bool) where
  -- ---- all

  -- all pass where each does
  pub all_pass : (from n : ℕ) → ((k : ℕ) → from ≤ k → k < from + n → test k ≡ true) → list_all test (range_with_len from n) ≡ true
  all_pass from zero passes = refl
  all_pass from (suc n) passes =
      ap (λ b. b && list_all test (range_with_len (from + 1) n)) (passes from (omega arith) (omega arith))
      ∙ all_pass (from + 1) n (λ k after before. passes k (omega (arith, after)) (omega (arith, before)))

  -- and not where one fails
  all_fail : (from n k : ℕ) → from ≤ k → k < from + n → test k ≡ false → list_all test (range_with_len from n) ≡ false
  all_fail from zero k after before fails = absurd (none_there from k after before)
  all_fail from (suc n) k after before fails = elim (first_or_rest from n k after before) [
    | inl same ↦ ap (λ b. b && list_all test (range_with_len (from + 1) n)) (ap test (sym same) ∙ fails)
    | inr rest ↦ ap (λ b. test from && b) (all_fail (from + 1) n k rest.0 rest.1 fails) ∙ and_false (test from)
  ]
    where
      and_false : (b : Bool) → (b && false) ≡ false
      and_false true = refl
      and_false false = refl

  -- so each passes where all do
  pub each_passes : (from n : ℕ) → list_all test (range_with_len from n) ≡ true → (k : ℕ) → from ≤ k → k < from + n → test k ≡ true
  each_passes from n all k after before = by (test k) refl
    where
      by : (b : Bool) → test k ≡ b → test k ≡ true
      by true is = is
      by false is = absurd (true≢false (sym all ∙ all_fail from n k after before is))

  -- ---- any

  -- some pass where one does
  pub one_passes : (from n k : ℕ) → from ≤ k → k < from + n → test k ≡ true → list_any test (range_with_len from n) ≡ true
  one_passes from zero k after before passes = absurd (none_there from k after before)
  one_passes from (suc n) k after before passes = elim (first_or_rest from n k after before) [
    | inl same ↦ ap (λ b. b || list_any test (range_with_len (from + 1) n)) (ap test (sym same) ∙ passes)
    | inr rest ↦ ap (λ b. test from || b) (one_passes (from + 1) n k rest.0 rest.1 passes) ∙ or_true (test from)
  ]
    where
      or_true : (b : Bool) → (b || true) ≡ true
      or_true true = refl
      or_true false = refl

  -- one of so many numbers passes
  pub record Passes (from n : ℕ) : Type 0 where
    pub number : ℕ
    pub after : from ≤ number
    pub before : number < from + n
    pub passes : test number ≡ true

  -- the first number passes, or a later one
  passing_or_later : (from n : ℕ) (first : Bool) → test from ≡ first → (first || list_any test (range_with_len (from + 1) n)) ≡ true
      → (list_any test (range_with_len (from + 1) n) ≡ true → Passes (from + 1) n) → Passes from (suc n)
  passing_or_later from n true is _ later = record { number = from; after = omega arith; before = omega arith; passes = is }
  passing_or_later from n false is rest later =
      let found = later rest in
      record { number = found.number; after = omega (arith, found.after); before = omega (arith, found.before); passes = found.passes }

  -- and one does where some pass
  pub passing : (from n : ℕ) → list_any test (range_with_len from n) ≡ true → Passes from n
  passing from zero some = absurd (true≢false (sym some))
  passing from (suc n) some = passing_or_later from n (test from) refl some (passing (from + 1) n)

  -- ---- the first

  -- a number that passes is the first where no lesser one does
  pub first_is : (from n k : ℕ) → from ≤ k → k < from + n → test k ≡ true → ((lesser : ℕ) → from ≤ lesser → lesser < k → test lesser ≡ false)
      → find test (range_with_len from n) ≡ Some k
  first_is from zero k after before passes fails = absurd (none_there from k after before)
  first_is from (suc n) k after before passes fails = elim (first_or_rest from n k after before) [
    | inl same ↦ ap (λ b. cond b (Some from) (find test (range_with_len (from + 1) n))) (ap test (sym same) ∙ passes) ∙ ap (λ m. Some m) (sym same)
    | inr rest ↦
        ap (λ b. cond b (Some from) (find test (range_with_len (from + 1) n))) (fails from (omega arith) (omega (arith, rest.0)))
        ∙ first_is (from + 1) n k rest.0 rest.1 passes (λ lesser later. fails lesser (omega (arith, later)))
  ]

  -- there is no first where none passes
  pub first_is_none : (from n : ℕ) → ((k : ℕ) → from ≤ k → k < from + n → test k ≡ false) → find test (range_with_len from n) ≡ None
  first_is_none from zero fails = refl
  first_is_none from (suc n) fails =
      ap (λ b. cond b (Some from) (find test (range_with_len (from + 1) n))) (fails from (omega arith) (omega arith))
      ∙ first_is_none (from + 1) n (λ k after before. fails k (omega (arith, after)) (omega (arith, before)))

module _ (among test : ℕ → Bool) where
  -- ---- all of those that pass another test

  -- one number more
  with_first : (from n : ℕ) (first : Bool) → among from ≡ first → (among from ≡ true → test from ≡ true)
      → list_all test (filter among (range_with_len (from + 1) n)) ≡ true → list_all test (filter among (range_with_len from (suc n))) ≡ true
  with_first from n true is passes rest =
      ap (λ b. list_all test (cond b (from ∷ filter among (range_with_len (from + 1) n)) (filter among (range_with_len (from + 1) n)))) is
      ∙ ap (λ b. b && list_all test (filter among (range_with_len (from + 1) n))) (passes is) ∙ rest
  with_first from n false is passes rest =
      ap (λ b. list_all test (cond b (from ∷ filter among (range_with_len (from + 1) n)) (filter among (range_with_len (from + 1) n)))) is ∙ rest

  -- all of them pass where each does
  pub all_among_pass : (from n : ℕ) → ((k : ℕ) → from ≤ k → k < from + n → among k ≡ true → test k ≡ true)
      → list_all test (filter among (range_with_len from n)) ≡ true
  all_among_pass from zero passes = refl
  all_among_pass from (suc n) passes =
      with_first from n (among from) refl (passes from (omega arith) (omega arith))
      (all_among_pass (from + 1) n (λ k after before. passes k (omega (arith, after)) (omega (arith, before))))

  -- and not where one of them fails
  pub one_among_fails : (from n k : ℕ) → from ≤ k → k < from + n → among k ≡ true → test k ≡ false
      → list_all test (filter among (range_with_len from n)) ≡ false
  one_among_fails from zero k after before is_among fails = absurd (none_there from k after before)
  one_among_fails from (suc n) k after before is_among fails = elim (first_or_rest from n k after before) [
    | inl same ↦
        ap (λ b. list_all test (cond b (from ∷ filter among (range_with_len (from + 1) n)) (filter among (range_with_len (from + 1) n)))) (ap among (sym same) ∙ is_among)
        ∙ ap (λ b. b && list_all test (filter among (range_with_len (from + 1) n))) (ap test (sym same) ∙ fails)
    | inr rest ↦ either (among from) (one_among_fails (from + 1) n k rest.0 rest.1 is_among fails)
  ]
    where
      and_false : (b : Bool) → (b && false) ≡ false
      and_false true = refl
      and_false false = refl

      either : (b : Bool) → list_all test (filter among (range_with_len (from + 1) n)) ≡ false
          → list_all test (cond b (from ∷ filter among (range_with_len (from + 1) n)) (filter among (range_with_len (from + 1) n))) ≡ false
      either true fails = ap (λ b. test from && b) fails ∙ and_false (test from)
      either false fails = fails
