-- Totals over the numbers below n that pass a test: the tasks above another one, each with its ticks.
use Rattle.std.proofs.Common.{◌≡◌, ℕ, zero, suc, ◌+◌, ◌<◌, ◌≤◌, inl, inr, Bool, true, false, cond, List, [], ◌∷◌, length, get_or, take, refl, ap, ◌∙◌, sym, arith}
use Rattle.std.specs.Prelude.{sum_by, filter}
use Rattle.std.specs.List.{range_with_len}
use Rattle.std.proofs.Math.Numerals.{add-one}
use Rattle.std.proofs.lemmas.Bool.{cases_eq, cond-true}
use Rattle.std.proofs.lemmas.List.{take_all}
use Rattle.std.proofs.lemmas.List.Sums.{sum_by-cons, sum_by_more}

-- the total of x over the numbers below n that pass
abbrev pub total : (ℕ → Bool) → (ℕ → ℕ) → ℕ → ℕ
total test x zero = 0
total test x (suc n) = total test x n + cond (test n) (x n) 0

part_within : (p : Bool) (a b c : ℕ) → (p ≡ true → b ≤ a + c) → cond p b 0 ≤ cond p a 0 + cond p c 0
part_within true a b c h = h refl
part_within false a b c h = omega arith

-- a bound on each is a bound on the total
pub total_within : (test : ℕ → Bool) (a b c : ℕ → ℕ) (n : ℕ) → ((j : ℕ) → j < n → test j ≡ true → b j ≤ a j + c j)
    → total test b n ≤ total test a n + total test c n
total_within test a b c zero h = omega arith
total_within test a b c (suc n) h = omega (
  arith,
  total_within test a b c n (λ j below passes. h j (omega arith) passes),
  part_within (test n) (a n) (b n) (c n) (λ passes. h n (omega arith) passes),
)

part_rises : (p : Bool) (a b : ℕ) → (p ≡ true → a ≤ b) → cond p a 0 ≤ cond p b 0
part_rises true a b h = h refl
part_rises false a b h = omega arith

-- where none that passes falls, the total doesn't
pub total_rises : (test : ℕ → Bool) (a b : ℕ → ℕ) (n : ℕ) → ((j : ℕ) → j < n → test j ≡ true → a j ≤ b j) → total test a n ≤ total test b n
total_rises test a b zero h = omega arith
total_rises test a b (suc n) h = omega (
  arith,
  total_rises test a b n (λ j below passes. h j (omega arith) passes),
  part_rises (test n) (a n) (b n) (λ passes. h n (omega arith) passes),
)

-- and where it is reached, each of them is
pub total_reached : (test : ℕ → Bool) (a b : ℕ → ℕ) (n : ℕ) → ((j : ℕ) → j < n → test j ≡ true → a j ≤ b j) → total test b n ≤ total test a n
    → (j : ℕ) → j < n → test j ≡ true → b j ≤ a j
total_reached test a b zero h reached j below passes = absurd (omega arith)
total_reached test a b (suc n) h reached j below passes =
    let before : total test a n ≤ total test b n = total_rises test a b n (λ k lower through. h k (omega arith) through) in
    let last : cond (test n) (a n) 0 ≤ cond (test n) (b n) 0 = part_rises (test n) (a n) (b n) (λ through. h n (omega arith) through) in
    elim (cases_eq j n) [
      | inl same ↦
          let through : test n ≡ true = ap test (sym same) ∙ passes in
          omega (arith, reached, before, cond-true (test n) (a n) 0 through, cond-true (test n) (b n) 0 through, ap a same, ap b same)
      | inr other ↦ total_reached test a b n (λ k lower through. h k (omega arith) through) (omega (arith, reached, last)) j (omega arith) passes
    ]

part_grows : (p : Bool) (a b : ℕ) → p ≡ true → a < b → cond p a 0 < cond p b 0
part_grows p a b passes h = omega (arith, cond-true p a 0 passes, cond-true p b 0 passes)

-- and where one that passes grows, it grows
pub total_grows : (test : ℕ → Bool) (a b : ℕ → ℕ) → ((j : ℕ) → a j ≤ b j) → (k : ℕ) → test k ≡ true → a k < b k
    → (n : ℕ) → k < n → total test a n < total test b n
total_grows test a b h k passes more zero below = absurd (omega arith)
total_grows test a b h k passes more (suc n) below = elim (cases_eq k n) [
  | inl same ↦ omega (
    arith,
    total_rises test a b n (λ j _ _. h j),
    part_grows (test n) (a n) (b n) (ap test (sym same) ∙ passes) (omega (arith, more, ap a same, ap b same)),
  )
  | inr other ↦ omega (
    arith,
    total_grows test a b h k passes more n (omega arith),
    part_rises (test n) (a n) (b n) (λ _. h n),
  )
]

filter_part : {X : Type 0} (f : X → ℕ) (x : X) (xs : List X) (p : Bool) → sum_by f (cond p (x ∷ xs) xs) ≡ cond p (f x) 0 + sum_by f xs
filter_part f x xs true = sum_by-cons f x xs
filter_part f x xs false = omega arith

-- a sum over what passes is one over all with nothing for what doesn't
sum_of_filter : {X : Type 0} (p : X → Bool) (f : X → ℕ) (xs : List X) → sum_by f (filter p xs) ≡ sum_by (λ x. cond (p x) (f x) 0) xs
sum_of_filter p f [] = refl
sum_of_filter p f (x ∷ xs) = omega (
  arith,
  filter_part f x (filter p xs) (p x),
  sum_by-cons (λ y. cond (p y) (f y) 0) x xs,
  sum_of_filter p f xs,
)

sum_of_range : (f : ℕ → ℕ) (a n : ℕ) → sum_by f (range_with_len a (suc n)) ≡ sum_by f (range_with_len a n) + f (a + n)
sum_of_range f a zero = let here : a + 0 ≡ a = omega arith in omega (arith, sum_by-cons f a [], ap f here)
sum_of_range f a (suc n) = let same : a + 1 + n ≡ a + suc n = omega arith in omega (
  arith,
  sum_by-cons f a (range_with_len (a + 1) (suc n)),
  sum_by-cons f a (range_with_len (a + 1) n),
  sum_of_range f (a + 1) n,
  ap f same,
)

-- a total is the sum over the numbers that pass
pub total_of_range : (test : ℕ → Bool) (f : ℕ → ℕ) (n : ℕ) → total test f n ≡ sum_by f (filter test (range_with_len 0 n))
total_of_range test f zero = refl
total_of_range test f (suc n) = let here : 0 + n ≡ n = omega arith in omega (
  arith,
  total_of_range test f n,
  sum_of_filter test f (range_with_len 0 n),
  sum_of_filter test f (range_with_len 0 (suc n)),
  sum_of_range (λ j. cond (test j) (f j) 0) 0 n,
  ap (λ j. cond (test j) (f j) 0) here,
)

module _ {X : Type 0} (p : X → Bool) (f : X → ℕ) (xs : List X) (d : X) where
  total_of_first : (n : ℕ) → n ≤ length xs
      → total (λ j. p (get_or xs j d)) (λ j. f (get_or xs j d)) n ≡ sum_by (λ x. cond (p x) (f x) 0) (take n xs)
  total_of_first zero h = refl
  total_of_first (suc n) h = omega (
    arith,
    total_of_first n (omega arith),
    rw add-one at (sum_by_more (λ x. cond (p x) (f x) 0) xs n d h),
  )

  -- a total over the places of a list is a sum over what passes of it
  pub total_of_list : total (λ j. p (get_or xs j d)) (λ j. f (get_or xs j d)) (length xs) ≡ sum_by f (filter p xs)
  total_of_list = omega (
    arith,
    total_of_first (length xs) (omega arith),
    ap (sum_by (λ x. cond (p x) (f x) 0)) (take_all (length xs) xs (omega arith)),
    sum_of_filter p f xs,
  )
