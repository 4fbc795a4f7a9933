-- Where a busy window begins: the last moment up to a given one at which none of the tasks has earlier work left.
use Rattle.std.proofs.Common.{◌≡◌, ℕ, zero, suc, ◌+◌, ◌<◌, ◌≤◌, ◌⊎◌, inl, inr, Bool, true, ap, sym, subst, ◌∙◌, arith}
use Rattle.std.proofs.lemmas.Bool.{cases_lt, cases_eq, cases_Bool, both_ways}

-- one of the numbers below n that pass has less in a than in b
pub record HasLess (test : ℕ → Bool) (a b : ℕ → ℕ) (n : ℕ) : Type 0 where
  pub at : ℕ
  pub below : at < n
  pub passes : test at ≡ true
  pub less : a at < b at

-- none of them has
abbrev pub NoneHasLess : (ℕ → Bool) → (a b : ℕ → ℕ) → ℕ → Type 0
NoneHasLess test a b n = (j : ℕ) → j < n → test j ≡ true → b j ≤ a j

module _ (test : ℕ → Bool) (a b : ℕ → ℕ) where
  less_further : (n : ℕ) → HasLess test a b n → HasLess test a b (suc n)
  less_further n less = record { at = less.at; below = omega (arith, less.below); passes = less.passes; less = less.less }

  none_further : (n : ℕ) → NoneHasLess test a b n → (test n ≡ true → b n ≤ a n) → NoneHasLess test a b (suc n)
  none_further n none last j below passes = elim (cases_eq j n) [
    | inl same ↦ omega (arith, last (ap test (sym same) ∙ passes), ap a same, ap b same)
    | inr other ↦ none j (omega arith) passes
  ]

  -- one has, or none has
  pub some_or_none : (n : ℕ) → HasLess test a b n ⊎ NoneHasLess test a b n
  some_or_none zero = inr (λ j below _. absurd (omega arith))
  some_or_none (suc n) = elim (some_or_none n) [
    | inl less ↦ inl (less_further n less)
    | inr none ↦ elim (cases_Bool (test n)) [
      | inl passes ↦ elim (cases_lt (a n) (b n)) [
        | inl less ↦ inl (record { at = n; below = omega arith; passes = passes; less = less })
        | inr no_less ↦ inr (none_further n none (λ _. no_less))
      ]
      | inr fails ↦ inr (none_further n none (λ passes. absurd (both_ways (test n) fails passes)))
    ]
  ]

-- s is the last clear moment up to r: at s none of the tasks that pass has work from before s left, and at each later
-- one of these moments one of them has
-- (`done` gives each task's executed ticks, and `before` its work that is released before a moment)
pub record IsLastClear (test : ℕ → Bool) (done before : ℕ → ℕ → ℕ) (n r s : ℕ) : Type 0 where
  pub within : s ≤ r
  pub clear : NoneHasLess test (λ j. done j s) (λ j. before j s) n
  pub last : (t : ℕ) → s < t → t ≤ r → HasLess test (λ j. done j t) (λ j. before j t) n

module _ (test : ℕ → Bool) (done before : ℕ → ℕ → ℕ) (n : ℕ) where
  clear_further : (r s : ℕ) → IsLastClear test done before n r s → HasLess test (λ j. done j (suc r)) (λ j. before j (suc r)) n
      → IsLastClear test done before n (suc r) s
  clear_further r s from less = record {
    within = omega (arith, from.within);
    clear = from.clear;
    last = λ t since until. elim (cases_eq t (suc r)) [
      | inl same ↦ subst (λ (m : ℕ). HasLess test (λ j. done j m) (λ j. before j m) n) (sym same) less
      | inr other ↦ from.last t since (omega arith)
    ];
  }

  clear_here : (r : ℕ) → NoneHasLess test (λ j. done j r) (λ j. before j r) n → IsLastClear test done before n r r
  clear_here r none = record { within = omega arith; clear = none; last = λ t since until. absurd (omega arith) }

  -- there is such a moment, since nothing is released before the first of all
  pub last_clear : ((j : ℕ) → before j 0 ≡ 0) → (r : ℕ) → (s : ℕ) × IsLastClear test done before n r s
  last_clear nothing zero = (0, clear_here 0 (λ j below passes. omega (arith, nothing j)))
  last_clear nothing (suc r) = elim (some_or_none test (λ j. done j (suc r)) (λ j. before j (suc r)) n) [
    | inl less ↦ let (s, from) = last_clear nothing r in (s, clear_further r s from less)
    | inr none ↦ (suc r, clear_here (suc r) none)
  ]

  module _ (r s : ℕ) (from : IsLastClear test done before n r s) where
    -- from it on one of the tasks always has work left
    pub busy : ((j t : ℕ) → done j t ≤ done j (suc t)) → (t : ℕ) → s ≤ t → t < r → HasLess test (λ j. done j t) (λ j. before j (suc t)) n
    busy rises t since until =
        let less = from.last (suc t) (omega (arith, since)) (omega (arith, until)) in
        record { at = less.at; below = less.below; passes = less.passes; less = omega (arith, less.less, rises less.at t) }

    -- and no clear moment is later
    pub no_later : (t : ℕ) → t ≤ r → NoneHasLess test (λ j. done j t) (λ j. before j t) n → t ≤ s
    no_later t until none = elim (cases_lt s t) [
      | inl after ↦
          let less = from.last t after until in
          absurd (omega (arith, less.less, none less.at less.below less.passes))
      | inr before ↦ before
    ]

-- a number that grows in each tick of a window has grown by no less than the width of the window
pub grows_by_width : (y : ℕ → ℕ) (start width : ℕ) → ((t : ℕ) → start ≤ t → t < start + width → y t < y (suc t))
    → y start + width ≤ y (start + width)
grows_by_width y start zero h = let here : start + 0 ≡ start = omega arith in omega (arith, ap y here)
grows_by_width y start (suc width) h =
    let next : start + suc width ≡ suc (start + width) = omega arith in
    omega (
      arith,
      grows_by_width y start width (λ t since until. h t since (omega arith)),
      h (start + width) (omega arith) (omega arith),
      ap y next,
    )
