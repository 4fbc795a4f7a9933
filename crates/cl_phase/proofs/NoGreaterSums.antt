-- The bounds by walks are at most the sums of the report, over the same timings.
use Rattle.std.proofs.Common.{◌≡◌, ℕ, ℤ, pos, negsuc, suc, ◌<◌, ◌≤◌, List, [], ◌∷◌, length, get_or, map, sym, ap, ◌∙◌, arith}
use Rattle.std.specs.Prelude.{◌+ℤ◌, ◌≤ℤ◌}
use Rattle.std.proofs.lemmas.Int.{ints}
use Rattle.cl_model.specs.{declared.group.Group.Group, Groups.group_at, Holds.greatest_by}
use Rattle.cl_model.proofs.Greatest.{greatest_within}
use Rattle.cl_runs.specs.TaskTiming.{System}
use Rattle.cl_hop.specs.{declared.group_timing.GroupTiming.GroupTiming, Hops.{forward_hop, backward_hop, hops}, Bounds.{Lengths, AreBoundsOf, greatest_reaction, greatest_reduced, greatest_delay}, NoGreater.AreNoGreater}
use Rattle.cl_hop.proofs.ReactionIsAge.{reaction_is_age}
use Rattle.cl_phase.specs.{declared.stop.Stop.Stop, Pace.greatest_step, Walks.{pace_at, last_place}, TightBounds.{hyperperiod_in, starts, ticks_or_none, span_of, last_write, length_from, reduced_from, delay_from, bounds_from}}
use Rattle.cl_phase.proofs.{Stepped.IsStepped, WalkStarts.AreStops, RunWalks.AreStopsOf, DelaySums.delay_near, WalkSums.{ahead, behind, length_near, reduced_near}}

-- where each number is a hop more than the one before it, the last is the sum of the hops more than the first
sum_of_hops : (hop : GroupTiming → GroupTiming → ℤ) (timing : Group → GroupTiming) (first : Group) (groups : List Group) (at : ℕ → ℤ)
    → ((i : ℕ) → suc i < length (first ∷ groups)
    → at (suc i) ≡ (at i +ℤ hop (timing (group_at (first ∷ groups) i)) (timing (group_at (first ∷ groups) (suc i)))))
    → at (length groups) ≡ (at 0 +ℤ hops hop (timing first) (map timing groups))
sum_of_hops hop timing first [] at each = omega (arith, ints)
sum_of_hops hop timing first (next ∷ groups) at each =
    let step : at 1 ≡ (at 0 +ℤ hop (timing first) (timing next)) = each 0 (omega arith) in
    let rest : at (suc (length groups)) ≡ (at 1 +ℤ hops hop (timing next) (map timing groups))
    = sum_of_hops hop timing next groups (λ i. at (suc i)) (λ i h. each (suc i) (omega (arith, h))) in
    omega (arith, ints, step, rest)

-- the greatest distances of stops are those of groups
pub record AreStepsOf (timing : Group → GroupTiming) (groups : List Group) (stops : List Stop) : Type 0 where
  pub steps : (place : ℕ) → place < length groups
      → greatest_step (pace_at stops place) ≡ (timing (group_at groups place)).distance

module _ (system : System) (timing : Group → GroupTiming) (first : Group) (later : List Group) (stops : List Stop)
    (of : AreStopsOf system timing (first ∷ later) stops) (steps : AreStepsOf timing (first ∷ later) stops) where
  same_last : last_place stops ≡ length later
  same_last = omega (arith, of.as_many)

  ahead_is : ahead stops (last_place stops) ≡ hops forward_hop (timing first) (map timing later)
  ahead_is =
      let sum = sum_of_hops forward_hop timing first later (ahead stops) (λ i h.
      omega (arith, ints, of.lags i h, ap pos (steps.steps (suc i) h))) in
      omega (arith, ints, ap (ahead stops) same_last, sum)

  behind_is : behind stops (last_place stops) ≡ hops backward_hop (timing first) (map timing later)
  behind_is =
      let sum = sum_of_hops backward_hop timing first later (behind stops) (λ i h.
      omega (arith, ints, of.lags i h, ap pos (steps.steps i (omega (arith, h))))) in
      omega (arith, ints, ap (behind stops) same_last, sum)

  module _ (stepped : (place : ℕ) → place < length stops → IsStepped (pace_at stops place)) (place : ℕ) (is : place < length stops) (arrival : ℤ) where
    length_within_sum : length_from stops (span_of timing (first ∷ later)) place arrival ≤ℤ greatest_reaction (map timing (first ∷ later))
    length_within_sum = omega (
      arith,
      ints,
      length_near stops stepped place is arrival (span_of timing (first ∷ later)),
      ahead_is,
      ap pos (steps.steps 0 (omega arith)),
    )

    reduced_within_sum : reduced_from stops (span_of timing (first ∷ later)) place arrival ≤ℤ greatest_reduced (map timing (first ∷ later))
    reduced_within_sum = omega (
      arith,
      ints,
      reduced_near stops stepped place is arrival (span_of timing (first ∷ later)),
      behind_is,
    )

    delay_within_sum : delay_from stops (last_write timing (first ∷ later)) place arrival ≤ℤ greatest_delay (map timing (first ∷ later))
    delay_within_sum = omega (
      arith,
      ints,
      delay_near stops stepped place is arrival (last_write timing (first ∷ later)),
      ahead_is,
    )

-- a number of ticks is at most a natural number that a length is at most
ticks_within : (length : ℤ) (most : ℕ) → length ≤ℤ pos most → ticks_or_none length ≤ most
ticks_within (pos n) most h = omega (arith, ints, h)
ticks_within (negsuc n) most h = omega arith

-- so is the greatest of such lengths
greatest_ticks : (length : ℤ → ℤ) (most : ℕ) (bound : ℤ) → pos most ≡ bound → ((arrival : ℤ) → length arrival ≤ℤ bound)
    → (moments : List ℕ) → greatest_by (λ moment. ticks_or_none (length (pos moment))) moments ≤ most
greatest_ticks length most bound is each moments = greatest_within (λ moment. ticks_or_none (length (pos moment))) moments most
    (λ i d h. ticks_within (length (pos (get_or moments i d))) most (omega (arith, ints, is, each (pos (get_or moments i d)))))

-- the bounds by walks are at most the sums
pub no_greater_than_sums : (system : System) (timing : Group → GroupTiming) (groups : List Group) → 0 < length groups → (stops : List Stop)
    → AreStopsOf system timing groups stops → AreStepsOf timing groups stops → (place : ℕ) → AreStops stops place
    → (sums : Lengths) → AreBoundsOf (map timing groups) sums
    → AreNoGreater (bounds_from stops (span_of timing groups) (last_write timing groups) place) sums
unfolding bounds_from
no_greater_than_sums system timing [] some stops of steps place are sums sum = absurd (omega (arith, some))
no_greater_than_sums system timing (first ∷ later) some stops of steps place are sums sum =
    let span = span_of timing (first ∷ later) in
    let from = starts (pace_at stops place) (hyperperiod_in stops) in
    let each = length_within_sum system timing first later stops of steps are.stepped place are.is_place in
    record {
      reaction = greatest_ticks (length_from stops span place) sums.reaction _ sum.reaction each from;
      age = greatest_ticks (length_from stops span place) sums.age _
          (sum.age ∙ sym (reaction_is_age (map timing (first ∷ later)))) each from;
      reduced = greatest_ticks (reduced_from stops span place) sums.reduced _ sum.reduced
          (reduced_within_sum system timing first later stops of steps are.stepped place are.is_place) from;
      delay = greatest_ticks (delay_from stops (last_write timing (first ∷ later)) place) sums.delay _ sum.delay
          (delay_within_sum system timing first later stops of steps are.stepped place are.is_place) from;
    }
