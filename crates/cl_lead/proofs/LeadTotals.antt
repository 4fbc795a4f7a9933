-- Totals over the numbers below n that pass a test: the tasks above another one, each with its
-- ticks.
use Rattle.std.proofs.Common.{◌≡◌, ℕ, zero, suc, ◌+◌, ◌<◌, ◌≤◌, ◌⊎◌, inl, inr, Bool, true, false, cond, List, [], ◌∷◌, refl, ap, arith}
use Rattle.std.specs.Prelude.{sum_by, filter}
use Rattle.std.specs.List.{range_with_len}
use Rattle.std.proofs.lemmas.Bool.{cases_Bool, cond-true, cond-false}
use Rattle.std.proofs.lemmas.List.Sums.{sum_by-cons}

-- the total of x over the numbers below n that pass
abbrev pub total : (ℕ → Bool) → (ℕ → ℕ) → ℕ → ℕ
total test x zero = 0
total test x (suc n) = total test x n + cond (test n) (x n) 0

part_within : (p : Bool) (a b c : ℕ) → (p ≡ true → a + c ≤ b) → cond p a 0 + cond p c 0 ≤ cond p b 0
part_within true a b c h = h refl
part_within false a b c h = omega arith

-- what each that passes has more than another is in the total too
pub total_more : (test : ℕ → Bool) (a b c : ℕ → ℕ) (n : ℕ) → ((j : ℕ) → j < n → test j ≡ true → a j + c j ≤ b j)
    → total test a n + total test c n ≤ total test b n
total_more test a b c zero h = omega arith
total_more test a b c (suc n) h = omega (
  arith,
  total_more test a b c n (λ j below passes. h j (omega arith) passes),
  part_within (test n) (a n) (b n) (c n) (λ passes. h n (omega arith) passes),
)

part_rises : (p : Bool) (a b : ℕ) → (p ≡ true → a ≤ b) → cond p a 0 ≤ cond p b 0
part_rises true a b h = h refl
part_rises false a b h = omega arith

-- where none that passes falls, the total doesn't
pub total_rises : (test : ℕ → Bool) (a b : ℕ → ℕ) (n : ℕ) → ((j : ℕ) → j < n → test j ≡ true → a j ≤ b j) → total test a n ≤ total test b n
total_rises test a b zero h = omega arith
total_rises test a b (suc n) h = omega (
  arith,
  total_rises test a b n (λ j below passes. h j (omega arith) passes),
  part_rises (test n) (a n) (b n) (λ passes. h n (omega arith) passes),
)

-- a number that stays or grows by one stays where it can't grow
pub stays_unless : (a b : ℕ) → (b ≡ a) ⊎ (b ≡ suc a) → (b ≡ suc a → b ≤ a) → b ≤ a
stays_unless a b (inl same) h = omega (arith, same)
stays_unless a b (inr more) h = h more

-- where at most one of those that pass grows, and by one, the total grows by one at most
module _ (test : ℕ → Bool) (a b : ℕ → ℕ) (climbs : (j : ℕ) → (b j ≡ a j) ⊎ (b j ≡ suc (a j)))
    (one : (j k : ℕ) → test j ≡ true → test k ≡ true → b j ≡ suc (a j) → b k ≡ suc (a k) → j ≡ k) where
  rest_stays : (n : ℕ) → test n ≡ true → b n ≡ suc (a n) → total test b n ≤ total test a n
  rest_stays n passes more = total_rises test b a n (λ j below through.
      stays_unless (a j) (b j) (climbs j) (λ grew. absurd (omega (arith, below, one j n through passes grew more))))

  pub total_one_more : (n : ℕ) → total test b n ≤ suc (total test a n)
  total_one_more zero = omega arith
  total_one_more (suc n) = elim (cases_Bool (test n)) [
    | inl passes ↦ elim (climbs n) [
      | inl same ↦ omega (arith, total_one_more n, cond-true (test n) (a n) 0 passes, cond-true (test n) (b n) 0 passes, same)
      | inr more ↦ omega (arith, rest_stays n passes more, cond-true (test n) (a n) 0 passes, cond-true (test n) (b n) 0 passes, more)
    ]
    | inr fails ↦ omega (arith, total_one_more n, cond-false (test n) (a n) 0 fails, cond-false (test n) (b n) 0 fails)
  ]

filter_part : {X : Type 0} (f : X → ℕ) (x : X) (xs : List X) (p : Bool) → sum_by f (cond p (x ∷ xs) xs) ≡ cond p (f x) 0 + sum_by f xs
filter_part f x xs true = sum_by-cons f x xs
filter_part f x xs false = omega arith

-- a sum over what passes is one over all with nothing for what doesn't
sum_of_filter : {X : Type 0} (p : X → Bool) (f : X → ℕ) (xs : List X) → sum_by f (filter p xs) ≡ sum_by (λ x. cond (p x) (f x) 0) xs
sum_of_filter p f [] = refl
sum_of_filter p f (x ∷ xs) = omega (
  arith,
  filter_part f x (filter p xs) (p x),
  sum_by-cons (λ y. cond (p y) (f y) 0) x xs,
  sum_of_filter p f xs,
)

sum_of_range : (f : ℕ → ℕ) (a n : ℕ) → sum_by f (range_with_len a (suc n)) ≡ sum_by f (range_with_len a n) + f (a + n)
sum_of_range f a zero = let here : a + 0 ≡ a = omega arith in omega (arith, sum_by-cons f a [], ap f here)
sum_of_range f a (suc n) = let same : a + 1 + n ≡ a + suc n = omega arith in omega (
  arith,
  sum_by-cons f a (range_with_len (a + 1) (suc n)),
  sum_by-cons f a (range_with_len (a + 1) n),
  sum_of_range f (a + 1) n,
  ap f same,
)

-- a total is the sum over the numbers that pass
pub total_of_range : (test : ℕ → Bool) (f : ℕ → ℕ) (n : ℕ) → total test f n ≡ sum_by f (filter test (range_with_len 0 n))
total_of_range test f zero = refl
total_of_range test f (suc n) = let here : 0 + n ≡ n = omega arith in omega (
  arith,
  total_of_range test f n,
  sum_of_filter test f (range_with_len 0 n),
  sum_of_filter test f (range_with_len 0 (suc n)),
  sum_of_range (λ j. cond (test j) (f j) 0) 0 n,
  ap (λ j. cond (test j) (f j) 0) here,
)
