-- Where the jobs of bursts arrive, by their numbers.
use Rattle.std.proofs.Common.{◌≡◌, ℕ, suc, ◌+◌, ◌-◌, ◌*◌, ◌/◌, ◌%◌, ◌<◌, nat_lt, ap, ◌∙◌, arith}
use Rattle.std.proofs.lemmas.Bool.{cond_both, ltb-true, ltb-false}
use Rattle.std.proofs.lemmas.Nat.{div-mul-add, mod-mul-add, div-add-mod', mod_below}
use Rattle.cl_model.specs.declared.stimulus.StimulusKind.TheVariants.{Burst}
use Rattle.cl_runs.specs.Pattern.{IsPattern, burst_gap}
use Rattle.cl_runs.proofs.PatternFacts.{burst_fits, gap_positive}

-- where job r of burst q arrives
abbrev pub place_in : (period offset distance q r : ℕ) → ℕ
place_in period offset distance q r = offset + q * period + r * distance

-- and where the job of a number does
abbrev pub position_of : (period offset count distance k : ℕ) → ℕ
position_of period offset count distance k = place_in period offset distance (k / count) (k % count)

module _ (period offset count distance : ℕ) where
  abbrev place : (q r : ℕ) → ℕ
  place = place_in period offset distance

  abbrev position : ℕ → ℕ
  position = position_of period offset count distance

  pub position_place : (k q r : ℕ) → k ≡ q * count + r → r < count → position k ≡ place q r
  position_place k q r is within = ap position is
      ∙ ap (λ n. place n ((q * count + r) % count)) (div-mul-add q count r within)
      ∙ ap (λ n. place q n) (mod-mul-add q count r within)

  next_within : (q r k : ℕ) → q * count + r ≡ k → suc r < count → place q r + distance ≡ position (suc k)
  next_within q r k is within = omega (arith, position_place (suc k) q (suc r) (omega (arith, is)) within)

  module _ (well : IsPattern (Burst period offset count distance)) where
    next_burst : (q r k : ℕ) → q * count + r ≡ k → suc r ≡ count → place q r + (period - (count - 1) * distance) ≡ position (suc k)
    next_burst q r k is last =
        let whole : suc q * count ≡ q * count + count = omega arith in
        let rest : count - 1 ≡ r = omega arith in
        omega (
          arith,
          position_place (suc k) (suc q) 0 (omega (arith, is, whole, last)) (omega (arith, well.0)),
          ap (λ n. n * distance) rest,
          burst_fits period count distance well.0 well.2,
        )

    -- each job arrives a gap after the one before it
    pub position_gap : (k : ℕ) → position k + burst_gap period count distance k ≡ position (suc k)
    position_gap k = cond_both (nat_lt (suc (k % count)) count) distance (period - (count - 1) * distance)
        (λ gap. position k + gap ≡ position (suc k))
        (λ within. next_within (k / count) (k % count) k (div-add-mod' k count) (ltb-true _ _ within))
        (λ last. next_burst (k / count) (k % count) k (div-add-mod' k count)
        (omega (arith, mod_below k count (omega (arith, well.0)), ltb-false _ _ last)))

    -- and so later
    pub position_rises : (k : ℕ) → position k < position (suc k)
    position_rises k = omega (arith, position_gap k, gap_positive (Burst period offset count distance) well k)
