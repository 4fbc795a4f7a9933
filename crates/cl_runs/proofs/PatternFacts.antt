-- What follows of a well-formed pattern: its gaps rise, are in order, and lie within the least and the greatest
-- distance.
use Rattle.std.proofs.Common.{◌≡◌, ℕ, suc, ◌+◌, ◌-◌, ◌*◌, ◌%◌, ◌≤◌, nat_lt, ap, arith}
use Rattle.std.proofs.lemmas.Bool.{cond_both}
use Rattle.cl_model.specs.{declared.stimulus.StimulusKind.{StimulusKind, TheVariants.{Periodic, Sporadic, Burst}}, Timing.{least_distance, greatest_distance}}
use Rattle.cl_runs.specs.Pattern.{IsPattern, first_least, first_greatest, burst_gap, least_gap, greatest_gap}

pub first_ordered : (pattern : StimulusKind) → IsPattern pattern → first_least pattern ≤ first_greatest pattern
first_ordered (Periodic period offset jitter) well = omega arith
first_ordered (Sporadic least greatest) well = omega arith
first_ordered (Burst period offset count distance) well = omega arith

-- arrivals lie at least one tick apart
pub distance_positive : (pattern : StimulusKind) → IsPattern pattern → 1 ≤ least_distance pattern
distance_positive (Periodic period offset jitter) well = well
distance_positive (Sporadic least greatest) well = well.0
distance_positive (Burst period offset count distance) well = well.1

-- a burst that fits its period ends a distance or more before the next
pub burst_fits : (period count distance : ℕ) → 1 ≤ count → count * distance ≤ period → distance + (count - 1) * distance ≤ period
burst_fits period count distance some fits =
    let all : count ≡ suc (count - 1) = omega arith in omega (arith, fits, ap (λ n. n * distance) all)

burst_least : (period count distance : ℕ) → 1 ≤ count → count * distance ≤ period → (k : ℕ) → distance ≤ burst_gap period count distance k
burst_least period count distance some fits k =
    cond_both (nat_lt (suc (k % count)) count) distance (period - (count - 1) * distance) (λ gap. distance ≤ gap)
    (λ within. omega arith) (λ last. omega (arith, burst_fits period count distance some fits))

burst_greatest : (period count distance : ℕ) → 1 ≤ count → count * distance ≤ period → (k : ℕ)
    → burst_gap period count distance k ≤ period - (count - 1) * distance
burst_greatest period count distance some fits k =
    cond_both (nat_lt (suc (k % count)) count) distance (period - (count - 1) * distance) (λ gap. gap ≤ period - (count - 1) * distance)
    (λ within. omega (arith, burst_fits period count distance some fits)) (λ last. omega arith)

-- each least gap is at least the least distance
pub least_within : (pattern : StimulusKind) → IsPattern pattern → (k : ℕ) → least_distance pattern ≤ least_gap pattern k
least_within (Periodic period offset jitter) well k = omega arith
least_within (Sporadic least greatest) well k = omega arith
least_within (Burst period offset count distance) well k = burst_least period count distance well.0 well.2 k

-- each greatest gap is at most the greatest distance
pub greatest_within : (pattern : StimulusKind) → IsPattern pattern → (k : ℕ) → greatest_gap pattern k ≤ greatest_distance pattern
greatest_within (Periodic period offset jitter) well k = omega arith
greatest_within (Sporadic least greatest) well k = omega arith
greatest_within (Burst period offset count distance) well k = burst_greatest period count distance well.0 well.2 k

pub gaps_ordered : (pattern : StimulusKind) → IsPattern pattern → (k : ℕ) → least_gap pattern k ≤ greatest_gap pattern k
gaps_ordered (Periodic period offset jitter) well k = omega arith
gaps_ordered (Sporadic least greatest) well k = well.1
gaps_ordered (Burst period offset count distance) well k = omega arith

-- hence each gap is at least one tick, and the distances are in order
module _ (pattern : StimulusKind) (well : IsPattern pattern) where
  pub gap_positive : (k : ℕ) → 1 ≤ least_gap pattern k
  gap_positive k = omega (arith, distance_positive pattern well, least_within pattern well k)

  pub distances_ordered : least_distance pattern ≤ greatest_distance pattern
  distances_ordered = omega (arith, least_within pattern well 0, gaps_ordered pattern well 0, greatest_within pattern well 0)
