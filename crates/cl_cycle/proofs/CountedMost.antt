-- No more jobs of a phase arrive in a window than in one as wide that begins with a period, nor
-- than are released at most.
use Rattle.std.proofs.Common.{◌≡◌, ℕ, ◌+◌, ◌-◌, ◌*◌, ◌/◌, ◌%◌, ◌<◌, ◌≤◌, inl, inr, min, ℤ, Some, None, unwrap_or, ap, arith}
use Rattle.std.specs.Int.{div_ceil}
use Rattle.std.proofs.lemmas.Bool.{cases_lt}
use Rattle.std.proofs.lemmas.Grind.{div_ceil_times}
use Rattle.std.proofs.lemmas.Nat.{div-add-mod', mod_below}
use Rattle.cl_model.specs.{declared.stimulus.StimulusKind.{StimulusKind, TheVariants.{Periodic, Sporadic, Burst}}, Timing.greatest_jitter}
use Rattle.cl_runs.specs.Pattern.{IsPattern}
use Rattle.cl_stim.specs.{declared.phase.Phase.Phase, Phase.{IsPhase, phase_of, since_turn}, Releases.most_releases}
use Rattle.cl_stim.proofs.{TurnFacts.{multiples_ordered, period_some}, PatternPhases.phase_is}
use Rattle.cl_cycle.specs.Counts.{arrivals_from}
use Rattle.cl_cycle.proofs.CountedTurns.{of_burst, burst_none, in_turns, turns_within, turns_whole, since_below, counted}

-- ---- parts of a burst

module _ (count distance : ℕ) (some : 1 ≤ count) (apart : 1 ≤ distance) where
  -- rounded up, two parts hold no less than both together
  up_sum : (a b : ℕ) → div_ceil (a + b) distance ≤ div_ceil a distance + div_ceil b distance
  up_sum a b =
      let product : (div_ceil a distance + div_ceil b distance) * distance ≡ div_ceil a distance * distance + div_ceil b distance * distance =
      omega arith in
      multiples_ordered distance (div_ceil (a + b) distance) (div_ceil a distance + div_ceil b distance) (omega (
        arith,
        product,
        (div_ceil_times (a + b) distance apart).1,
        (div_ceil_times a distance apart).0,
        (div_ceil_times b distance apart).0,
      ))

  -- nor does a wider one hold fewer
  up_rises : (a b : ℕ) → a ≤ b → div_ceil a distance ≤ div_ceil b distance
  up_rises a b h = multiples_ordered distance (div_ceil a distance) (div_ceil b distance)
      (omega (arith, h, (div_ceil_times a distance apart).1, (div_ceil_times b distance apart).0))

  -- a burst has no more in both together
  burst_sum : (a b : ℕ) → of_burst count distance (a + b) ≤ of_burst count distance a + of_burst count distance b
  burst_sum a b = least_sum count (div_ceil (a + b) distance) (div_ceil a distance) (div_ceil b distance) (up_sum a b)
    where
      least_sum : (count all a b : ℕ) → all ≤ a + b → min count all ≤ min count a + min count b
      least_sum count all a b h = omega (arith, h)

  -- where both together reach past the period, into the next burst
  up_wraps : (period a b past : ℕ) → count * distance ≤ period → a + b ≡ period + past
      → count + div_ceil past distance ≤ div_ceil a distance + div_ceil b distance
  up_wraps period a b past fits sum =
      let left : (count + div_ceil past distance) * distance ≡ count * distance + div_ceil past distance * distance = omega arith in
      let right : (div_ceil a distance + div_ceil b distance) * distance ≡ div_ceil a distance * distance + div_ceil b distance * distance =
      omega arith in
      multiples_ordered distance (count + div_ceil past distance) (div_ceil a distance + div_ceil b distance) (omega (
        arith,
        left,
        right,
        fits,
        sum,
        (div_ceil_times past distance apart).1,
        (div_ceil_times a distance apart).0,
        (div_ceil_times b distance apart).0,
      ))

  -- a burst, and what of the next one lies in them, has no more
  burst_wraps : (period a b past : ℕ) → count * distance ≤ period → a + b ≡ period + past → past ≤ a → past ≤ b
      → count + of_burst count distance past ≤ of_burst count distance a + of_burst count distance b
  burst_wraps period a b past fits sum by_a by_b =
      least_wraps count (div_ceil past distance) (div_ceil a distance) (div_ceil b distance)
      (up_wraps period a b past fits sum) (up_rises past a by_a) (up_rises past b by_b)
    where
      least_wraps : (count past a b : ℕ) → count + past ≤ a + b → past ≤ a → past ≤ b → count + min count past ≤ min count a + min count b
      least_wraps count past a b h by_a by_b = omega (arith, h, by_a, by_b)

-- ---- any window

module _ (phase : Phase) (is : IsPhase phase) where
  -- how many of a burst of the phase arrive in its first ticks
  abbrev part : (ticks : ℕ) → ℕ
  part ticks = of_burst phase.count phase.distance ticks

  -- less than two periods
  part_sum : (a b : ℕ) → a < phase.period → b < phase.period → in_turns phase (a + b) ≤ part a + part b
  part_sum a b h k = elim (cases_lt (a + b) phase.period) [
    | inl within ↦ omega (arith, turns_within phase is (a + b) within, burst_sum phase.count phase.distance is.some is.apart a b)
    | inr not ↦
        let past : ℕ = a + b - phase.period in
        let sum : a + b ≡ phase.period + past = omega (arith, not) in
        let whole : a + b ≡ 1 * phase.period + past = omega (arith, sum) in
        let once : 1 * phase.count ≡ phase.count = omega arith in
        let wraps = burst_wraps phase.count phase.distance is.some is.apart phase.period a b past is.fits sum
        (omega (arith, sum, k)) (omega (arith, sum, h)) in
        omega (
          arith,
          ap (in_turns phase) whole,
          turns_whole phase is 1 past,
          once,
          turns_within phase is past (omega (arith, sum, h, k)),
          wraps,
        )
  ]

  -- any number of periods
  turns_sum : (since width : ℕ) → since < phase.period → in_turns phase (since + width) ≤ in_turns phase since + in_turns phase width
  turns_sum since width h =
      let rest = mod_below width phase.period (period_some phase is) in
      let parts : since + width ≡ width / phase.period * phase.period + (since + width % phase.period) =
      omega (arith, div-add-mod' width phase.period) in
      omega (
        arith,
        ap (in_turns phase) parts,
        turns_whole phase is (width / phase.period) (since + width % phase.period),
        part_sum since (width % phase.period) h rest,
        turns_within phase is since h,
      )

  -- the most jobs arrive where the window begins with a period
  pub most_arrive : (from : ℤ) (width : ℕ) → arrivals_from phase from width ≤ in_turns phase width
  most_arrive from width = omega (
    arith,
    counted phase is width from,
    turns_sum (since_turn phase from) width (since_below phase is from),
  )

-- ---- the most releases

-- of a single job a period, as often as the period fits, rounded up
one_a_period : (period width : ℕ) → 1 ≤ period
    → width / period * 1 + of_burst 1 period (width % period) ≤ div_ceil width period
one_a_period period width some = elim (cases_lt 0 (width % period)) [
  | inl rest ↦ omega (arith, rest)
  | inr none ↦
      let nothing : width % period ≡ 0 = omega (arith, none) in
      omega (arith, nothing, ap (of_burst 1 period) nothing, burst_none 1 period (omega arith) some)
]

-- no more jobs arrive, with the jitter, than are released at most
pub most_arrivals : (kind : StimulusKind) → IsPattern kind → (phase : Phase) → phase_of kind ≡ Some phase → (from : ℤ) (width : ℕ)
    → arrivals_from phase from (width + greatest_jitter kind) ≤ most_releases kind width
unfolding most_releases
most_arrivals (Periodic period offset jitter) well phase has from width =
    let few : arrivals_from phase from (width + jitter) ≤ in_turns phase (width + jitter) =
    most_arrive phase (phase_is (Periodic period offset jitter) phase has well) from (width + jitter) in
    let same : in_turns (record { period = period; offset = offset; count = 1; distance = period }) (width + jitter) ≡ in_turns phase (width + jitter) =
    ap (λ o. in_turns (unwrap_or o phase) (width + jitter)) has in
    omega (arith, few, same, one_a_period period (width + jitter) well)
most_arrivals (Sporadic least greatest) well phase has from width = absurd (none_some phase has)
  where
    none_some : (phase : Phase) → None ≡ Some phase → ⊥
    none_some phase has = grind (arith)
most_arrivals (Burst period offset count distance) well phase has from width =
    let few : arrivals_from phase from width ≤ in_turns phase width =
    most_arrive phase (phase_is (Burst period offset count distance) phase has well) from width in
    let same : in_turns (record { period = period; offset = offset; count = count; distance = distance }) width ≡ in_turns phase width =
    ap (λ o. in_turns (unwrap_or o phase) width) has in
    let none : width + 0 ≡ width = omega arith in
    omega (arith, few, same, ap (arrivals_from phase from) none)
