-- Sums over ranges of numbers, and such a sum taken apart by a number that each of its terms has.
use Rattle.std.proofs.Common.{◌≡◌, ℕ, zero, suc, ◌+◌, ◌<◌, ◌≤◌, inl, inr, cond, eqb, nat_le, refl, ap, arith}
use Rattle.std.specs.Prelude.{sum_by}
use Rattle.std.specs.List.{range_with_len}
use Rattle.std.proofs.lemmas.Bool.{cases_eq}
use Rattle.std.proofs.lemmas.Bool.Decides.{nat_tests}
use Rattle.std.proofs.lemmas.List.Sums.{sum_by-cons}

-- the sum over the n numbers from a on
abbrev pub total : (ℕ → ℕ) → (a n : ℕ) → ℕ
total f a n = sum_by f (range_with_len a n)

total_next : (f : ℕ → ℕ) (a n : ℕ) → total f a (suc n) ≡ f a + total f (a + 1) n
total_next f a n = sum_by-cons f a (range_with_len (a + 1) n)

pub total_mono : (f g : ℕ → ℕ) (n a : ℕ) → ((i : ℕ) → a ≤ i → i < a + n → f i ≤ g i) → total f a n ≤ total g a n
total_mono f g zero a each = omega arith
total_mono f g (suc n) a each = omega (
  arith,
  total_next f a n,
  total_next g a n,
  each a (omega arith) (omega arith),
  total_mono f g n (a + 1) (λ i from below. each i (omega arith) (omega arith)),
)

-- where a term is less, so is the sum
pub total_more : (f g : ℕ → ℕ) (n a : ℕ) → ((i : ℕ) → a ≤ i → i < a + n → f i ≤ g i) → (j : ℕ) → a ≤ j → j < a + n → f j < g j
    → total f a n < total g a n
total_more f g zero a each j from below more = absurd (omega arith)
total_more f g (suc n) a each j from below more = elim (cases_eq a j) [
  | inl same ↦ omega (
    arith,
    total_next f a n,
    total_next g a n,
    ap f same,
    ap g same,
    more,
    total_mono f g n (a + 1) (λ i h k. each i (omega arith) (omega arith)),
  )
  | inr other ↦ omega (
    arith,
    total_next f a n,
    total_next g a n,
    each a (omega arith) (omega arith),
    total_more f g n (a + 1) (λ i h k. each i (omega arith) (omega arith)) j (omega arith) (omega arith) more,
  )
]

total_none : (n a : ℕ) → total (λ i. 0) a n ≡ 0
total_none zero a = refl
total_none (suc n) a = omega (arith, total_next (λ i. 0) a n, total_none n (a + 1))

total_both : (f g : ℕ → ℕ) (n a : ℕ) → total (λ i. f i + g i) a n ≡ total f a n + total g a n
total_both f g zero a = refl
total_both f g (suc n) a = omega (
  arith,
  total_next (λ i. f i + g i) a n,
  total_next f a n,
  total_next g a n,
  total_both f g n (a + 1),
)

pub total_twice : (f : ℕ → ℕ) (n a : ℕ) → total (λ i. f i + f i) a n ≡ total f a n + total f a n
total_twice f n a = total_both f f n a

-- the terms that have a number
abbrev pub of_key : (key : ℕ → ℕ) (f : ℕ → ℕ) (k : ℕ) → ℕ → ℕ
of_key key f k i = cond (eqb (key i) k) (f i) 0

key_there : (x k v : ℕ) → x ≡ k → cond (eqb x k) v 0 ≡ v
key_there x k v h = grind (arith, nat_tests)

key_elsewhere : (x k v : ℕ) → (x ≡ k → ⊥) → cond (eqb x k) v 0 ≡ 0
key_elsewhere x k v h = grind (arith, nat_tests)

pub of_key_is : (key f : ℕ → ℕ) (k i : ℕ) → key i ≡ k → of_key key f k i ≡ f i
of_key_is key f k i h = key_there (key i) k (f i) h

pub of_key_mono : (key f g : ℕ → ℕ) (k i : ℕ) → f i ≤ g i → of_key key f k i ≤ of_key key g k i
of_key_mono key f g k i h = elim (cases_eq (key i) k) [
  | inl is ↦ omega (arith, key_there (key i) k (f i) is, key_there (key i) k (g i) is, h)
  | inr isnt ↦ omega (arith, key_elsewhere (key i) k (f i) isnt)
]

-- a term is counted at its own number alone
at_most : (b x v : ℕ) → cond (nat_le b x) v 0 ≤ v
at_most b x v = grind (arith, nat_tests)

from_here : (b x v : ℕ) → x ≡ b → cond (nat_le b x) v 0 ≡ v
from_here b x v h = grind (arith, nat_tests)

past_here : (b x v : ℕ) → x ≡ b → cond (nat_le (b + 1) x) v 0 ≡ 0
past_here b x v h = grind (arith, nat_tests)

from_next : (b x v : ℕ) → cond (nat_le (b + 1) x) v 0 ≤ cond (nat_le b x) v 0
from_next b x v = grind (arith, nat_tests)

counted_once : (x v m b : ℕ) → total (λ k. cond (eqb x k) v 0) b m ≤ cond (nat_le b x) v 0
counted_once x v zero b = omega arith
counted_once x v (suc m) b = elim (cases_eq x b) [
  | inl here ↦ omega (
    arith,
    total_next (λ k. cond (eqb x k) v 0) b m,
    key_there x b v here,
    counted_once x v m (b + 1),
    past_here b x v here,
    from_here b x v here,
  )
  | inr elsewhere ↦ omega (
    arith,
    total_next (λ k. cond (eqb x k) v 0) b m,
    key_elsewhere x b v elsewhere,
    counted_once x v m (b + 1),
    from_next b x v,
  )
]

-- so the terms of each number add up to no more than all terms
pub keys_apart : (key f : ℕ → ℕ) (m n a : ℕ) → total (λ k. total (of_key key f k) a n) 0 m ≤ total f a n
keys_apart key f m zero a = omega (arith, total_none m 0)
keys_apart key f m (suc n) a = omega (
  arith,
  total_mono (λ k. total (of_key key f k) a (suc n)) (λ k. of_key key f k a + total (of_key key f k) (a + 1) n) m 0
      (λ k from below. omega (arith, total_next (of_key key f k) a n)),
  total_both (λ k. of_key key f k a) (λ k. total (of_key key f k) (a + 1) n) m 0,
  counted_once (key a) (f a) m 0,
  at_most 0 (key a) (f a),
  keys_apart key f m n (a + 1),
  total_next f a n,
)
