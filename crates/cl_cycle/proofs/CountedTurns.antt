-- How many jobs of a phase arrive in so many ticks from the beginning of a period on, and so in any
-- window. Times are in ticks, and may lie before 0.
use Rattle.std.proofs.Common.{◌≡◌, ℕ, zero, suc, ◌+◌, ◌-◌, ◌*◌, ◌/◌, ◌%◌, ◌<◌, ◌≤◌, ◌==◌, inl, inr, min, ℤ, pos, negsuc, ◌+ℤ◌, ◌-ℤ◌, unsigned_abs, refl, ap, sym, ◌∙◌, arith}
use Rattle.std.specs.Int.{div_ceil}
use Rattle.std.proofs.lemmas.Int.{ints, int_rem_euclid_is}
use Rattle.std.proofs.lemmas.Bool.{cases_lt}
use Rattle.std.proofs.lemmas.Bool.Decides.{nat_tests}
use Rattle.std.proofs.lemmas.Grind.{div_ceil_times}
use Rattle.std.proofs.lemmas.Nat.{div-mul-add, mod-mul-add, div-add-mod', mod_below}
use Rattle.std.proofs.Math.Nat.{mul-le-mul_left, mul-le-mul_right}
use Rattle.cl_stim.specs.{declared.phase.Phase.Phase, Phase.{IsPhase, since_turn}}
use Rattle.cl_stim.proofs.TurnFacts.{multiples_ordered, period_some}
use Rattle.cl_cycle.specs.Counts.{arrivals_from}
use Rattle.cl_cycle.proofs.CountedTicks.{one_if, arriving, none_in_none, earlier}

-- ---- in a period

-- how many jobs of a burst arrive in its first ticks
abbrev pub of_burst : (count distance ticks : ℕ) → ℕ
of_burst count distance ticks = min count (div_ceil ticks distance)

module _ (count distance : ℕ) (some : 1 ≤ count) (apart : 1 ≤ distance) where
  -- rounded up, a tick more is one more than rounded down
  up_next : (ticks : ℕ) → div_ceil (ticks + 1) distance ≡ ticks / distance + 1
  up_next ticks =
      let times = div_ceil_times (ticks + 1) distance apart in
      let parts = div-add-mod' ticks distance in
      let rest = mod_below ticks distance apart in
      let product : (ticks / distance + 1) * distance ≡ ticks / distance * distance + distance = omega arith in
      omega (
        arith,
        multiples_ordered distance (div_ceil (ticks + 1) distance) (ticks / distance + 1) (omega (arith, times.1, parts, rest, product)),
        multiples_ordered distance (ticks / distance + 1) (div_ceil (ticks + 1) distance) (omega (arith, times.0, parts, rest, product)),
      )

  -- no job arrives between two, nor after the last
  not_there : (place ticks : ℕ) → place * distance < ticks → one_if (place * distance == ticks) ≡ 0
  not_there place ticks h = grind (arith, nat_tests)

  there : (place ticks : ℕ) → place * distance ≡ ticks → one_if (place * distance == ticks) ≡ 1
  there place ticks h = grind (arith, nat_tests)

  -- a tick more has one more where a job arrives in it
  pub burst_more : (ticks : ℕ) → of_burst count distance (ticks + 1)
      ≡ of_burst count distance ticks + one_if (min (ticks / distance) (count - 1) * distance == ticks)
  burst_more ticks = elim (cases_lt 0 (ticks % distance)) [
    | inl between ↦
        let up : div_ceil ticks distance ≡ ticks / distance + 1 = omega (arith, between) in
        omega (
          arith,
          up,
          up_next ticks,
          not_there place ticks (omega (arith, parts, between, mul-le-mul_right distance down)),
        )
    | inr at ↦
        let up : div_ceil ticks distance ≡ ticks / distance = omega (arith, at) in
        elim (cases_lt (ticks / distance) count) [
          | inl of ↦
              let is : place ≡ ticks / distance = omega (arith, of) in
              omega (arith, up, up_next ticks, there place ticks (omega (arith, parts, at, ap (λ n. n * distance) is)))
          | inr past ↦
              let before : place + 1 ≤ ticks / distance = omega (arith, past, some) in
              let product : (place + 1) * distance ≡ place * distance + distance = omega arith in
              omega (
                arith,
                up,
                up_next ticks,
                not_there place ticks (omega (arith, parts, product, apart, mul-le-mul_right distance before)),
              )
        ]
  ]
    where
      place : ℕ
      place = min (ticks / distance) (count - 1)

      down : place ≤ ticks / distance
      down = omega arith

      parts : ticks / distance * distance + ticks % distance ≡ ticks
      parts = div-add-mod' ticks distance

  -- none of a burst arrives in no ticks
  pub burst_none : of_burst count distance 0 ≡ 0
  burst_none =
      let nothing : 0 * distance ≡ 0 = omega arith in
      omega (arith, multiples_ordered distance (div_ceil 0 distance) 0 (omega (arith, (div_ceil_times 0 distance apart).1, nothing)))

  -- all of a burst arrive in as many ticks as it takes
  pub burst_all : (ticks : ℕ) → count * distance ≤ ticks → of_burst count distance ticks ≡ count
  burst_all ticks fits =
      let times = div_ceil_times ticks distance apart in
      omega (arith, multiples_ordered distance count (div_ceil ticks distance) (omega (arith, times.0, fits, apart)))

-- ---- how long ago a period began

-- whole multiples later an integer is a natural number
shifted : (z : ℤ) (n : ℕ) → 1 ≤ n → (k : ℕ) × ((m : ℕ) × ((z +ℤ pos (k * n)) ≡ pos m))
shifted (pos a) n some = (0, (a, let none : 0 * n ≡ 0 = omega arith in omega (arith, ints, none)))
shifted (negsuc a) n some =
    let grows : suc a ≤ suc a * n = omega (arith, mul-le-mul_left (suc a) some) in
    (suc a, (suc a * n - suc a, omega (arith, ints, grows)))

-- a tick later the rest is one more, or none where a multiple is full
rest_rises : (m n : ℕ) → m % n + 1 < n → (m + 1) % n ≡ m % n + 1
rest_rises m n h =
    let next : m + 1 ≡ m / n * n + (m % n + 1) = omega (arith, div-add-mod' m n) in
    ap (λ k. k % n) next ∙ mod-mul-add (m / n) n (m % n + 1) h

rest_ends : (m n : ℕ) → m % n + 1 ≡ n → (m + 1) % n ≡ 0
rest_ends m n h =
    let next : m + 1 ≡ suc (m / n) * n + 0 = omega (arith, div-add-mod' m n, h) in
    ap (λ k. k % n) next ∙ mod-mul-add (suc (m / n)) n 0 (omega (arith, h))

module _ (phase : Phase) (is : IsPhase phase) where
  -- a tick later so is the number
  next_base : (moment : ℤ) (offset : ℕ) (ticks m : ℕ) → ((moment -ℤ pos offset) +ℤ pos ticks) ≡ pos m
      → (((moment +ℤ pos 1) -ℤ pos offset) +ℤ pos ticks) ≡ pos (m + 1)
  next_base moment offset ticks m h = omega (arith, ints, h)

  -- a natural number that lies whole periods after the moment's place
  abbrev base : (moment : ℤ) → (k : ℕ) × ((m : ℕ) × (((moment -ℤ pos phase.offset) +ℤ pos (k * phase.period)) ≡ pos m))
  base moment = shifted (moment -ℤ pos phase.offset) phase.period (period_some phase is)

  -- how long ago the period began is its rest, and a tick later that of the next number
  since_here : (moment : ℤ) → since_turn phase moment ≡ (base moment).1.0 % phase.period
  since_here moment = ap unsigned_abs
      (int_rem_euclid_is (moment -ℤ pos phase.offset) (pos phase.period) phase.period (base moment).0 (base moment).1.0
      (period_some phase is) refl (base moment).1.1)

  since_next : (moment : ℤ) → since_turn phase (moment +ℤ pos 1) ≡ ((base moment).1.0 + 1) % phase.period
  since_next moment = ap unsigned_abs
      (int_rem_euclid_is ((moment +ℤ pos 1) -ℤ pos phase.offset) (pos phase.period) phase.period (base moment).0 ((base moment).1.0 + 1)
      (period_some phase is) refl (next_base moment phase.offset ((base moment).0 * phase.period) (base moment).1.0 (base moment).1.1))

  -- a period began less than a period ago
  pub since_below : (moment : ℤ) → since_turn phase moment < phase.period
  since_below moment = omega (arith, since_here moment, mod_below (base moment).1.0 phase.period (period_some phase is))

  -- a tick later it began a tick longer ago, or begins anew
  since_rises : (moment : ℤ) → since_turn phase moment + 1 < phase.period
      → since_turn phase (moment +ℤ pos 1) ≡ since_turn phase moment + 1
  since_rises moment h = omega (
    arith,
    since_here moment,
    since_next moment,
    rest_rises (base moment).1.0 phase.period (omega (arith, since_here moment, h)),
  )

  since_ends : (moment : ℤ) → since_turn phase moment + 1 ≡ phase.period → since_turn phase (moment +ℤ pos 1) ≡ 0
  since_ends moment h = omega (
    arith,
    since_next moment,
    rest_ends (base moment).1.0 phase.period (omega (arith, since_here moment, h)),
  )

-- ---- from the beginning of a period on

-- how many jobs arrive in the first ticks from the beginning of a period on
abbrev pub in_turns : Phase → (ticks : ℕ) → ℕ
in_turns phase ticks = ticks / phase.period * phase.count + of_burst phase.count phase.distance (ticks % phase.period)

module _ (phase : Phase) (is : IsPhase phase) where
  -- less than a period
  pub turns_within : (ticks : ℕ) → ticks < phase.period → in_turns phase ticks ≡ of_burst phase.count phase.distance ticks
  turns_within ticks h =
      let all : ticks ≡ 0 * phase.period + ticks = omega arith in
      let whole : ticks / phase.period ≡ 0 = ap (λ n. n / phase.period) all ∙ div-mul-add 0 phase.period ticks h in
      let rest : ticks % phase.period ≡ ticks = ap (λ n. n % phase.period) all ∙ mod-mul-add 0 phase.period ticks h in
      let none : 0 * phase.count ≡ 0 = omega arith in
      omega (arith, ap (λ n. n * phase.count) whole, none, ap (of_burst phase.count phase.distance) rest)

  -- so many periods and some ticks
  pub turns_whole : (turns ticks : ℕ) → in_turns phase (turns * phase.period + ticks) ≡ turns * phase.count + in_turns phase ticks
  turns_whole turns ticks =
      let rest = mod_below ticks phase.period (period_some phase is) in
      let all : turns * phase.period + ticks ≡ (turns + ticks / phase.period) * phase.period + ticks % phase.period =
      omega (arith, div-add-mod' ticks phase.period) in
      let whole : (turns * phase.period + ticks) / phase.period ≡ turns + ticks / phase.period =
      ap (λ n. n / phase.period) all ∙ div-mul-add (turns + ticks / phase.period) phase.period (ticks % phase.period) rest in
      let same : (turns * phase.period + ticks) % phase.period ≡ ticks % phase.period =
      ap (λ n. n % phase.period) all ∙ mod-mul-add (turns + ticks / phase.period) phase.period (ticks % phase.period) rest in
      let product : (turns + ticks / phase.period) * phase.count ≡ turns * phase.count + ticks / phase.period * phase.count = omega arith in
      omega (arith, ap (λ n. n * phase.count) whole, product, ap (of_burst phase.count phase.distance) same)

  -- no ticks, and a period more
  turns_none : in_turns phase 0 ≡ 0
  turns_none = turns_within 0 (period_some phase is) ∙ burst_none phase.count phase.distance is.some is.apart

  turns_next : (ticks : ℕ) → in_turns phase (phase.period + ticks) ≡ phase.count + in_turns phase ticks
  turns_next ticks =
      let one : 1 * phase.period + ticks ≡ phase.period + ticks = omega arith in
      let once : 1 * phase.count ≡ phase.count = omega arith in
      omega (arith, ap (in_turns phase) one, once, turns_whole 1 ticks)

  -- a tick more has the job that arrives in it
  arrives_more : (from : ℤ) → of_burst phase.count phase.distance (since_turn phase from) + arriving phase from
      ≡ of_burst phase.count phase.distance (since_turn phase from + 1)
  arrives_more from = sym (burst_more phase.count phase.distance is.some is.apart (since_turn phase from))

  -- numbers where the period goes on a tick later, and where it ends
  goes_on : (in_turns_of : ℕ → ℕ) (since since_later width here now later : ℕ) → since_later ≡ since + 1
      → in_turns_of since + here ≡ in_turns_of (since + 1) → now ≡ here + later
      → in_turns_of since_later + later ≡ in_turns_of (since_later + width) → in_turns_of since + now ≡ in_turns_of (since + suc width)
  goes_on in_turns_of since since_later width here now later next more parts rest =
      let end : since_later + width ≡ since + suc width = omega (arith, next) in
      omega (arith, more, parts, rest, ap in_turns_of next, ap in_turns_of end)

  ends : (in_turns_of : ℕ → ℕ) (since since_later width here now later period count : ℕ) → since + 1 ≡ period → since_later ≡ 0
      → in_turns_of 0 ≡ 0 → in_turns_of (period + width) ≡ count + in_turns_of width
      → in_turns_of since + here ≡ count → now ≡ here + later
      → in_turns_of since_later + later ≡ in_turns_of (since_later + width) → in_turns_of since + now ≡ in_turns_of (since + suc width)
  ends in_turns_of since since_later width here now later period count final next none whole all parts rest =
      let end : since_later + width ≡ width = omega (arith, next) in
      let last : since + suc width ≡ period + width = omega (arith, final) in
      omega (arith, none, whole, all, parts, rest, ap in_turns_of next, ap in_turns_of end, ap in_turns_of last)

  -- the arrivals in a window are those until its end but for those until its beginning
  pub counted : (width : ℕ) (from : ℤ) → in_turns phase (since_turn phase from) + arrivals_from phase from width
      ≡ in_turns phase (since_turn phase from + width)
  counted zero from =
      let same : since_turn phase from + 0 ≡ since_turn phase from = omega arith in
      omega (arith, none_in_none phase from, ap (in_turns phase) same)
  counted (suc width) from =
      let more : suc width ≡ width + 1 = omega arith in
      let since = since_turn phase from in
      let below = since_below phase is from in
      let parts : arrivals_from phase from (suc width) ≡ arriving phase from + arrivals_from phase (from +ℤ pos 1) width =
      ap (arrivals_from phase from) more ∙ earlier phase from width in
      elim (cases_lt (since + 1) phase.period) [
        | inl on ↦ goes_on (in_turns phase) since (since_turn phase (from +ℤ pos 1)) width (arriving phase from)
            (arrivals_from phase from (suc width)) (arrivals_from phase (from +ℤ pos 1) width)
            (since_rises phase is from on)
            (omega (arith, turns_within since below, turns_within (since + 1) on, arrives_more from))
            parts (counted width (from +ℤ pos 1))
        | inr not ↦
            let final : since + 1 ≡ phase.period = omega (arith, not, below) in
            ends (in_turns phase) since (since_turn phase (from +ℤ pos 1)) width (arriving phase from)
            (arrivals_from phase from (suc width)) (arrivals_from phase (from +ℤ pos 1) width) phase.period phase.count final
            (since_ends phase is from final) turns_none (turns_next width)
            (omega (
              arith,
              turns_within since below,
              arrives_more from,
              burst_all phase.count phase.distance is.some is.apart (since + 1) (omega (arith, final, is.fits)),
            ))
            parts (counted width (from +ℤ pos 1))
      ]
