-- Least common multiples from greatest common divisors.
use Rattle.std.proofs.Common.{◌≡◌, ℕ, zero, suc, ◌+◌, ◌*◌, ◌/◌, ◌%◌, ◌<◌, ◌≤◌, arith, subst, ap, refl}
use Rattle.std.specs.Int.{◌∣◌, IsGcd}
use Rattle.std.proofs.Math.Nat.{dvd-mod_iff, dvd-add_iff_right, dvd-mul_right_of_dvd, dvd-mul_left, dvd-mul_right, dvd_of_mul-dvd-mul_right, div-mul_cancel, mul-dvd-mul_left, mul-dvd-mul_right, pos_of_dvd_of_pos, mul-pos}
use Rattle.std.proofs.lemmas.Nat.Gcd.{IsGcd-from_zero, same_from_IsGcd}
use Rattle.cl_time.specs.Divisors.{IsLcm}

-- one step of Euclid's algorithm keeps a greatest common divisor
IsGcd-mod : (a b g : ℕ) → IsGcd a b g → IsGcd b (a % b) g
IsGcd-mod a b g h = (h.1, (dvd-mod_iff g h.1).1 h.0, λ d p q. h.2 d ((dvd-mod_iff d p).0 q) p)

-- what divides k times each of two numbers divides k times the remainder
dvd-mul-mod : (a b k d : ℕ) → 0 < b → d ∣ k * a → d ∣ k * b → d ∣ k * (a % b)
dvd-mul-mod a b k d some p q =
    let division : b * (a / b) + a % b ≡ a = omega arith in
    let scaled : k * a ≡ k * b * (a / b) + k * (a % b) = omega (arith, ap (λ n. k * n) division) in
    (dvd-add_iff_right d (dvd-mul_right_of_dvd d q (a / b))).1 (subst (λ n. d ∣ n) scaled p)

-- what divides k times each of two numbers divides k times their greatest common divisor
dvd-mul-gcd : (n a b g k d : ℕ) → b ≤ n → IsGcd a b g → d ∣ k * a → d ∣ k * b → d ∣ k * g
dvd-mul-gcd n a zero g k d bound h p q =
    subst (λ x. d ∣ k * x) (same_from_IsGcd a 0 a g (IsGcd-from_zero a 0 refl) h) p
dvd-mul-gcd zero a (suc b) g k d bound h p q = absurd (omega arith)
dvd-mul-gcd (suc n) a (suc b) g k d bound h p q =
    dvd-mul-gcd n (suc b) (a % suc b) g k d (omega arith) (IsGcd-mod a (suc b) g h) q
    (dvd-mul-mod a (suc b) k d (omega arith) p q)

-- the greatest common divisor of two numbers, one of them above 0, is above 0
pub IsGcd-pos : (a b g : ℕ) → 0 < a → IsGcd a b g → 0 < g
IsGcd-pos a b g some h = pos_of_dvd_of_pos h.0 some

-- one number over the greatest common divisor, times the other, is the least common multiple
pub IsLcm-from_gcd : (a b g : ℕ) → 0 < a → IsGcd a b g → IsLcm a b (a / g * b)
IsLcm-from_gcd a b g some h = record {
  first = subst (λ x. x ∣ a / g * b) whole (mul-dvd-mul_left g (a / g) h.1);
  second = dvd-mul_left b (a / g);
  least = λ n p q.
      let by_first : a * b ∣ n * a = subst (λ x. a * b ∣ x) (omega arith) (mul-dvd-mul_left b a q) in
      let scaled : a * b ∣ n * g = dvd-mul-gcd b a b g n (a * b) (omega arith) h by_first (mul-dvd-mul_right a p b) in
      let same : a * b ≡ a / g * b * g = omega (arith, ap (λ x. x * b) whole) in
      dvd_of_mul-dvd-mul_right (a / g * b) (IsGcd-pos a b g some h) (subst (λ x. x ∣ n * g) same scaled);
}
  where
    whole : a / g * g ≡ a
    whole = div-mul_cancel g h.0

-- a least common multiple of two numbers above 0 is above 0
pub IsLcm-pos : (a b m : ℕ) → 0 < a → 0 < b → IsLcm a b m → 0 < m
IsLcm-pos a b m some other h =
    pos_of_dvd_of_pos (h.least (a * b) (dvd-mul_right a b) (dvd-mul_left b a)) (mul-pos some other)
