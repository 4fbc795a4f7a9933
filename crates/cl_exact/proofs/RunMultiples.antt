-- Common multiples of some numbers, as great as one likes.
use Rattle.std.proofs.Common.{◌≡◌, ℕ, zero, suc, ◌*◌, ◌<◌, ◌≤◌, inl, inr, ap, arith}
use Rattle.std.specs.Prelude.{cond, nat_lt}
use Rattle.std.proofs.lemmas.Bool.{cases_lt}
use Rattle.std.proofs.lemmas.Bool.Decides.{nat_tests}
use Rattle.std.proofs.Math.Nat.{mul-le-mul_left}

-- a number of at least `bound` that is so many times each of the first n numbers
pub record IsCommonMultiple (numbers : ℕ → ℕ) (n bound : ℕ) : Type 0 where
  pub multiple : ℕ
  pub times : ℕ → ℕ
  pub great : bound ≤ multiple
  pub is : (i : ℕ) → i < n → times i * numbers i ≡ multiple

scaled : (c p q s : ℕ) → c * p ≡ s → (c * q) * p ≡ s * q
scaled c p q s is = let more = ap (λ n. n * q) is in omega (arith, more)

below_last : (n i c s : ℕ) → i < n → cond (nat_lt i n) c s ≡ c
below_last n i c s h = grind (arith, nat_tests)

at_last : (n i c s : ℕ) → n ≤ i → cond (nat_lt i n) c s ≡ s
at_last n i c s h = grind (arith, nat_tests)

pub common_multiple : (numbers : ℕ → ℕ) (n bound : ℕ) → ((i : ℕ) → i < n → 1 ≤ numbers i) → IsCommonMultiple numbers n bound
common_multiple numbers zero bound some = record { multiple = bound; times = λ i. 0; great = omega arith; is = λ i h. absurd (omega (arith, h)) }
common_multiple numbers (suc n) bound some =
    let rest = common_multiple numbers n bound (λ i h. some i (omega (arith, h))) in
    let one = some n (omega arith) in
    record {
      multiple = rest.multiple * numbers n;
      times = λ i. cond (nat_lt i n) (rest.times i * numbers n) rest.multiple;
      great = omega (arith, rest.great, mul-le-mul_left rest.multiple one);
      is = λ i h. elim (cases_lt i n) [
        | inl before ↦
            rw (below_last n i (rest.times i * numbers n) rest.multiple before)
            (scaled (rest.times i) (numbers i) (numbers n) rest.multiple (rest.is i before))
        | inr last ↦
            let here : i ≡ n = omega (arith, h, last) in
            rw (at_last n i (rest.times i * numbers n) rest.multiple last) (ap (λ j. rest.multiple * numbers j) here)
      ];
    }
