-- How many jobs of bursts arrive in the first ticks: those of the whole periods, and those of the rest.
use Rattle.std.proofs.Common.{◌≡◌, ℕ, zero, suc, ◌+◌, ◌-◌, ◌*◌, ◌/◌, ◌%◌, ◌<◌, ◌≤◌, min, inl, inr, refl, sym, ap, arith}
use Rattle.std.specs.Int.{div_ceil}
use Rattle.std.proofs.Math.Nat.{mul-le-mul_right}
use Rattle.std.proofs.lemmas.Bool.{cases_lt}
use Rattle.std.proofs.lemmas.Grind.{div_ceil_times}
use Rattle.std.proofs.lemmas.Nat.{div-add-mod', mod_below}
use Rattle.cl_model.specs.declared.stimulus.StimulusKind.TheVariants.{Burst}
use Rattle.cl_runs.specs.Pattern.{IsPattern}
use Rattle.cl_runs.proofs.{PatternFacts.burst_fits, BurstPlaces.{place_in, position_of, position_place, position_rises}}
use Rattle.cl_gen.specs.{Arrivals.arrivals_below, Count.arrival_count}
use Rattle.cl_gen.proofs.RisingArrivals.{above_from, below_is}

module _ (period offset count distance : ℕ) (well : IsPattern (Burst period offset count distance)) where
  abbrev place : (q r : ℕ) → ℕ
  place = place_in period offset distance

  abbrev position : ℕ → ℕ
  position = position_of period offset count distance

  position_is : (k q r : ℕ) → k ≡ q * count + r → r < count → position k ≡ place q r
  position_is = position_place period offset count distance

  rises : (k : ℕ) → position k < position (suc k)
  rises = position_rises period offset count distance well

  -- of a width of q periods and a rest, in which fit as many distances, rounded up
  module _ (ticks q rest fit : ℕ) (parts : q * period + rest ≡ ticks - offset) (less : rest < period)
      (enough : rest ≤ fit * distance) (least : fit * distance < rest + distance) where
    end_at : (m : ℕ) → m ≡ min count fit → ticks ≤ position (q * count + m)
    end_at m is = elim (cases_lt fit count) [
      | inl within ↦ let same : m ≡ fit = omega arith in
          omega (arith, position_is (q * count + m) q m (omega arith) (omega arith), ap (λ n. n * distance) same)
      | inr whole ↦ let same : m ≡ count = omega arith in
          let more : suc q * count ≡ q * count + count = omega arith in
          omega (arith, position_is (q * count + m) (suc q) 0 (omega (arith, more, same)) (omega (arith, well.0)))
    ]

    last_of_rest : (m : ℕ) → suc m ≡ min count fit → position (q * count + m) < ticks
    last_of_rest m is =
        let fits : (m + 1) * distance ≤ fit * distance = mul-le-mul_right distance (omega arith) in
        omega (arith, position_is (q * count + m) q m (omega arith) (omega arith), fits)

    last_of_burst : (p : ℕ) → q ≡ suc p → 0 ≡ min count fit → position (p * count + (count - 1)) < ticks
    last_of_burst p is none =
        let no_fit : fit ≡ 0 = omega (arith, well.0) in
        omega (
          arith,
          position_is (p * count + (count - 1)) p (count - 1) (omega arith) (omega (arith, well.0)),
          burst_fits period count distance well.0 well.2,
          ap (λ n. n * distance) no_fit,
          ap (λ n. n * period) is,
          well.1,
        )

    last_below : (m n : ℕ) → m ≡ min count fit → suc n ≡ q * count + m → position n < ticks
    last_below (suc m) n is last =
        let same : n ≡ q * count + m = omega arith in omega (arith, last_of_rest m is, ap position same)
    last_below zero n is last = of_burst q refl
      where
        of_burst : (p : ℕ) → q ≡ p → position n < ticks
        of_burst zero none = absurd (omega (arith, ap (λ k. k * count) none))
        of_burst (suc p) some =
            let same : n ≡ p * count + (count - 1) = omega (arith, ap (λ k. k * count) some, well.0) in
            omega (arith, last_of_burst p some is, ap position same)

    all_below_end : (n k : ℕ) → n ≡ q * count + min count fit → k < n → position k < ticks
    all_below_end zero k is lt = absurd (omega arith)
    all_below_end (suc n) k is lt = omega (arith, above_from position rises k n (omega arith), last_below (min count fit) n refl is)

    count_of : arrivals_below position ticks ≡ q * count + min count fit
    count_of = below_is position rises ticks (q * count + min count fit) (λ k lt. all_below_end _ k refl lt) (end_at (min count fit) refl)

  pub burst_count : (ticks : ℕ)
      → (ticks - offset) / period * count + min count (div_ceil ((ticks - offset) % period) distance)
      ≡ arrival_count (Burst period offset count distance) ticks
  unfolding arrival_count
  burst_count ticks =
      let width = ticks - offset in
      let rest = width % period in
      let fits = div_ceil_times rest distance (omega (arith, well.1)) in
      sym (count_of ticks (width / period) rest (div_ceil rest distance) (div-add-mod' width period)
      (mod_below width period (omega (arith, burst_fits period count distance well.0 well.2, well.1))) fits.0 fits.1)
