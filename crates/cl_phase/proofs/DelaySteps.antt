-- The step from an arrival to the next one: it rises, moves with rounds, leads from the arrival before one to that one,
-- and goes no less far than the least distance and no further than the greatest.
use Rattle.std.proofs.Common.{◌≡◌, ℕ, ℤ, pos, suc, ◌+◌, ◌*◌, ◌<◌, ◌≤◌, ◌+ℤ◌, ◌-ℤ◌, ◌≤ℤ◌, inl, inr, Some, None, unwrap_or, refl, sym, ap, ◌∙◌, arith, mul-le-mul_right}
use Rattle.std.proofs.lemmas.Bool.{cases_lt}
use Rattle.std.proofs.lemmas.Int.{ints, by_lt_z}
use Rattle.cl_model.specs.{declared.stimulus.StimulusKind.{StimulusKind, TheVariants.{Periodic, Sporadic, Burst}}, Timing.least_distance}
use Rattle.cl_runs.specs.Pattern.{IsPattern}
use Rattle.cl_runs.proofs.PatternFacts.{distances_ordered}
use Rattle.cl_stim.specs.{declared.phase.Phase.Phase, Phase.{IsPhase, IsArrivalOf, phase_of, first_arrival, last_arrival}}
use Rattle.cl_stim.proofs.{PatternPhases.phase_is, PhaseSteps.{begin, in_order, arrival_lies, first_arrives, first_after, last_arrives, last_before, last_after}}
use Rattle.cl_phase.specs.{declared.pace.Pace.{Pace, TheVariants.{Kept, Free}}, Pace.{IsPace, first_from, last_by, previous, next, PaceComesRound, AreNeighbours, greatest_step}}
use Rattle.cl_phase.proofs.{PatternPaces.IsPaceOf, Stepped.IsStepped, WalksBothWays.first_rises, WalkStarts.IsArrivalAt}

module _ (pace : Pace) (stepped : IsStepped pace) where
  pub next_rises : (from to : ℤ) → from ≤ℤ to → next pace from ≤ℤ next pace to
  next_rises from to le = first_rises pace stepped (from +ℤ pos 1) (to +ℤ pos 1) (omega (arith, ints, le))

  pub next_moves : (ticks : ℕ) → PaceComesRound ticks pace → (moved arrival : ℤ) → moved ≡ (arrival +ℤ pos ticks)
      → next pace moved ≡ (next pace arrival +ℤ pos ticks)
  next_moves ticks round moved arrival is =
      let same : (moved +ℤ pos 1) ≡ ((arrival +ℤ pos 1) +ℤ pos ticks) = omega (arith, ints, is) in
      ap (first_from pace) same ∙ stepped.first_moves ticks round (arrival +ℤ pos 1)

  -- it goes no further than the greatest distance
  pub next_near : (arrival : ℤ) → next pace arrival ≤ℤ (arrival +ℤ pos (greatest_step pace))
  next_near arrival = omega (arith, ints, stepped.first_near (arrival +ℤ pos 1))

  -- the arrival after the last one by a moment comes after that moment
  pub next_past : (moment : ℤ) → (moment +ℤ pos 1) ≤ℤ next pace (last_by pace moment)
  next_past moment = by_lt_z moment (next pace (last_by pace moment))
      (λ before. omega (arith, ints, before))
      (λ by. absurd (omega (arith, ints, stepped.onward_back (last_by pace moment +ℤ pos 1) moment by)))

-- an arrival and the one before it are neighbours
pub arrival_neighbours : (pace : Pace) (arrival : ℤ) → IsArrivalAt pace arrival → AreNeighbours pace (previous pace arrival) arrival
unfolding last_by
arrival_neighbours (Kept phase) arrival arrives = (arrives, refl)
arrival_neighbours (Free greatest) arrival arrives = omega (arith, ints)

-- the one before it comes before the last one by it
previous_before : (pace : Pace) → IsPace pace → (arrival : ℤ) → IsArrivalAt pace arrival → (previous pace arrival +ℤ pos 1) ≤ℤ last_by pace arrival
unfolding last_by
previous_before (Kept phase) is arrival arrives =
    omega (arith, ints, last_before phase is (arrival -ℤ pos 1), last_after phase is arrival arrival arrives (omega (arith, ints)))
previous_before (Free greatest) is arrival arrives = omega (arith, ints)

-- and the one after that isn't later than the arrival
pub next_of_previous : (pace : Pace) → IsPace pace → IsStepped pace → (arrival : ℤ) → IsArrivalAt pace arrival
    → next pace (previous pace arrival) ≤ℤ arrival
next_of_previous pace is stepped arrival arrives =
    stepped.back_onward (previous pace arrival +ℤ pos 1) arrival (previous_before pace is arrival arrives)

-- ---- how far it goes

-- numbers about two arrivals of one period, and of two
one_apart : (from to : ℤ) (one other distance : ℕ) (earlier later : ℤ)
    → earlier ≡ (from +ℤ pos (one * distance)) → later ≡ (to +ℤ pos (other * distance))
    → from ≡ to → suc one * distance ≤ other * distance → (earlier +ℤ pos distance) ≤ℤ later
one_apart from to one other distance earlier later here there same h =
    let next : suc one * distance ≡ one * distance + distance = omega arith in
    omega (arith, ints, here, there, same, h, next)

two_apart : (from to : ℤ) (one other distance period : ℕ) (earlier later : ℤ)
    → earlier ≡ (from +ℤ pos (one * distance)) → later ≡ (to +ℤ pos (other * distance))
    → (from +ℤ pos period) ≤ℤ to → suc one * distance ≤ period → (earlier +ℤ pos distance) ≤ℤ later
two_apart from to one other distance period earlier later here there after h =
    let next : suc one * distance ≡ one * distance + distance = omega arith in
    omega (arith, ints, here, there, after, h, next)

further_on : (from to : ℤ) (one other distance : ℕ) (earlier later : ℤ)
    → earlier ≡ (from +ℤ pos (one * distance)) → later ≡ (to +ℤ pos (other * distance))
    → from ≡ to → (earlier +ℤ pos 1) ≤ℤ later → one < other
further_on from to one other distance earlier later here there same less = elim (cases_lt one other) [
  | inl h ↦ h
  | inr le ↦ absurd (omega (arith, ints, here, there, same, less, mul-le-mul_right distance le))
]

-- two arrivals of a phase lie at least its distance apart
pub arrivals_apart : (phase : Phase) → IsPhase phase → (earlier later : ℤ) → IsArrivalOf phase earlier → IsArrivalOf phase later
    → (earlier +ℤ pos 1) ≤ℤ later → (earlier +ℤ pos phase.distance) ≤ℤ later
arrivals_apart phase is earlier later one other less =
    in_order phase one.turn other.turn (one.place * phase.distance) (other.place * phase.distance) earlier later
    (arrival_lies phase is earlier one) (arrival_lies phase is later other) (omega (arith, ints, less))
    (λ same le. one_apart (begin phase one.turn) (begin phase other.turn) one.place other.place phase.distance earlier later one.arrives other.arrives
    (ap (begin phase) same)
    (mul-le-mul_right phase.distance
    (further_on (begin phase one.turn) (begin phase other.turn) one.place other.place phase.distance earlier later one.arrives other.arrives
    (ap (begin phase) same) less)))
    (λ after. two_apart (begin phase one.turn) (begin phase other.turn) one.place other.place phase.distance phase.period earlier later
    one.arrives other.arrives
    after (omega (arith, mul-le-mul_right phase.distance one.within, is.fits)))

-- the distance of the phase of a pattern is its least distance
phase_least : (pattern : StimulusKind) (phase : Phase) → phase_of pattern ≡ Some phase → phase.distance ≡ least_distance pattern
phase_least (Periodic period offset jitter) phase is = sym (ap (λ o. (unwrap_or o phase).distance) is)
phase_least (Sporadic least greatest) phase is = absurd (none_some phase is)
  where
    none_some : (phase : Phase) → None ≡ Some phase → ⊥
    none_some phase is = grind (arith)
phase_least (Burst period offset count distance) phase is = sym (ap (λ o. (unwrap_or o phase).distance) is)

-- the arrival after the last one by a moment comes at least the least distance after it
pub next_far : (pattern : StimulusKind) (pace : Pace) → IsPaceOf pattern pace → IsPattern pattern → (moment : ℤ)
    → (last_by pace moment +ℤ pos (least_distance pattern)) ≤ℤ next pace (last_by pace moment)
unfolding first_from last_by
next_far pattern (Kept phase) is well moment =
    let phase_well = phase_is pattern phase is well in
    let last = last_arrival phase moment in
    let apart = arrivals_apart phase phase_well last (first_arrival phase (last +ℤ pos 1)) (last_arrives phase phase_well moment)
    (first_arrives phase phase_well (last +ℤ pos 1)) (first_after phase phase_well (last +ℤ pos 1)) in
    omega (arith, ints, apart, phase_least pattern phase is)
next_far pattern (Free greatest) is well moment = omega (arith, ints, is, distances_ordered pattern well)
