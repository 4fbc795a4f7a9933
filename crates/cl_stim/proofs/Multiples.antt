-- The common multiple that is searched for is the least.
use Rattle.std.proofs.Common.{◌≡◌, ℕ, ◌*◌, ◌%◌, ◌≤◌, Bool, true, true≢false, ◌&&◌, ◌==◌, inl, inr, sym, ◌∙◌, arith}
use Rattle.std.specs.Int.{◌∣◌}
use Rattle.std.proofs.Math.Nat.{dvd-mod_iff, dvd-mul_left, dvd-mul_right, mul-pos}
use Rattle.std.proofs.lemmas.Bool.{cases_lt, and_from, and_parts, eqb-true, eq-eqb}
use Rattle.std.proofs.lemmas.Nat.{mod_below}
use Rattle.std.proofs.lemmas.Nat.Gcd.{dvd_of_mod-eq-zero, mod-eq-zero_of_dvd}
use Rattle.cl_time.specs.Divisors.{IsLcm}
use Rattle.cl_stim.specs.Multiples.{common_multiple}
use Rattle.cl_stim.proofs.Ranges.{IsFirstInRange, first_in_range}

module _ (m n : ℕ) where
  abbrev is_common : ℕ → Bool
  is_common ticks = (ticks % m == 0) && (ticks % n == 0)

  common_from : (ticks : ℕ) → m ∣ ticks → n ∣ ticks → is_common ticks ≡ true
  common_from ticks first second = and_from (ticks % m == 0) (ticks % n == 0)
      (eq-eqb (ticks % m) 0 (mod-eq-zero_of_dvd m first)) (eq-eqb (ticks % n) 0 (mod-eq-zero_of_dvd n second))

  common_parts : (ticks : ℕ) → is_common ticks ≡ true → (m ∣ ticks) × (n ∣ ticks)
  common_parts ticks passes =
      let both = and_parts (ticks % m == 0) (ticks % n == 0) passes in
      (dvd_of_mod-eq-zero m (eqb-true (ticks % m) 0 both.0), dvd_of_mod-eq-zero n (eqb-true (ticks % n) 0 both.1))

  module _ (some : 1 ≤ m) (other : 1 ≤ n) where
    found : IsFirstInRange is_common 1 (m * n) (common_multiple m n)
    unfolding common_multiple
    found = first_in_range is_common 1 (m * n) 0 (m * n) (mul-pos some other) (omega arith)
        (common_from (m * n) (dvd-mul_right m n) (dvd-mul_left n m))

    pub common_positive : 1 ≤ common_multiple m n
    common_positive = found.not_before

    -- what is left of a common multiple is one too, and less than the least
    divides_all : (ticks : ℕ) → m ∣ ticks → n ∣ ticks → common_multiple m n ∣ ticks
    divides_all ticks first second =
        let least = common_multiple m n in
        let parts = common_parts least found.passes in
        let rest = ticks % least in
        let passes : is_common rest ≡ true = common_from rest ((dvd-mod_iff m parts.0).1 first) ((dvd-mod_iff n parts.1).1 second) in
        elim (cases_lt 0 rest) [
          | inl more ↦ absurd (true≢false (sym passes ∙ found.fails_before rest more (mod_below ticks least common_positive)))
          | inr none ↦ dvd_of_mod-eq-zero least (omega (arith, none))
        ]

    pub common_is_least : IsLcm m n (common_multiple m n)
    common_is_least = record {
      first = (common_parts (common_multiple m n) found.passes).0;
      second = (common_parts (common_multiple m n) found.passes).1;
      least = divides_all;
    }
