-- Phases that come round together, and one more with them. Times are in ticks.
use Rattle.std.proofs.Common.{◌≡◌, ℕ, ◌+◌, ◌-◌, ◌*◌, ◌/◌, ◌^◌, ◌<◌, ◌≤◌, min, List, [], ◌∷◌, All, refl, ap, sym, ◌∙◌, subst, arith}
use Rattle.std.specs.Int.{◌∣◌}
use Rattle.std.specs.Prelude.{sum_by}
use Rattle.std.proofs.lemmas.Nat.{div-mul-add, mul-le}
use Rattle.std.proofs.lemmas.Nat.Gcd.{dvd_antisymm}
use Rattle.std.proofs.lemmas.List.Elements.{All-head, All-tail, All-cons, All-nil, All-weaker}
use Rattle.std.proofs.lemmas.List.Sums.{sum_by-cons}
use Rattle.std.proofs.Math.Nat.{div-mul_cancel, dvd_refl, one-dvd}
use Rattle.cl_time.specs.Divisors.{IsLcm}
use Rattle.cl_model.specs.declared.limits.TheConstants.{MOST_TICKS}
use Rattle.cl_stim.specs.{declared.phase.Phase.Phase, Phase.{IsPhaseInRange, arrivals_in}, Multiples.{common_multiple, hyperperiod_of}}
use Rattle.cl_stim.proofs.{Multiples.common_is_least, Hyperperiods.{HasPeriod, Divides, hyperperiod_positive, hyperperiod_divided}}
use Rattle.cl_cycle.specs.{declared.cycle.TheConstants.MOST_IN_CYCLE, Cycles.arrivals_together, Inner.Gathering.AreTogether}

-- phases in range have periods
pub have_periods : (phases : List Phase) → All IsPhaseInRange phases → All HasPeriod phases
have_periods phases are = All-weaker IsPhaseInRange HasPeriod (λ phase is. omega (arith, is.offset)) phases are

-- two numbers have one least common multiple
one_multiple : (a b m n : ℕ) → IsLcm a b m → IsLcm a b n → m ≡ n
one_multiple a b m n p q = dvd_antisymm (p.least n q.first q.second) (q.least m p.first p.second)

-- they come round after a tick or more
pub some_ticks : (phases : List Phase) (ticks arrivals : ℕ) → AreTogether phases ticks arrivals → 1 ≤ ticks
some_ticks phases ticks arrivals are = omega (arith, are.ticks_are, hyperperiod_positive phases (have_periods phases are.in_range))

-- ---- a longer time

-- so many times as long, so many times the arrivals
arrivals_longer : (phase : Phase) → IsPhaseInRange phase → (ticks times : ℕ) → phase.period ∣ ticks
    → arrivals_in (ticks * times) phase ≡ arrivals_in ticks phase * times
arrivals_longer phase is ticks times divides =
    let turns = ticks / phase.period in
    let whole : turns * phase.period ≡ ticks = div-mul_cancel phase.period divides in
    let longer : ticks * times ≡ turns * times * phase.period + 0 = omega (arith, ap (λ n. n * times) whole) in
    let counted : ticks * times / phase.period ≡ turns * times =
    ap (λ n. n / phase.period) longer ∙ div-mul-add (turns * times) phase.period 0 (omega (arith, is.offset)) in
    ap (λ n. n * phase.count) counted ∙ (omega arith)

-- a sum of multiples is a multiple of the sum
scaled : (m n times : ℕ) → m * times + n * times ≡ (m + n) * times
scaled m n times = omega arith

-- so with all together
pub sum_longer : (ticks times : ℕ) (phases : List Phase) → All IsPhaseInRange phases → All (Divides ticks) phases
    → sum_by (arrivals_in (ticks * times)) phases ≡ sum_by (arrivals_in ticks) phases * times
sum_longer ticks times [] are divide = omega arith
sum_longer ticks times (phase ∷ phases) are divide =
    let here = arrivals_longer phase (All-head IsPhaseInRange phase phases are) ticks times (All-head (Divides ticks) phase phases divide) in
    let there = sum_longer ticks times phases (All-tail IsPhaseInRange phase phases are) (All-tail (Divides ticks) phase phases divide) in
    sum_by-cons (arrivals_in (ticks * times)) phase phases
    ∙ ap (λ n. n + sum_by (arrivals_in (ticks * times)) phases) here
    ∙ ap (λ n. arrivals_in ticks phase * times + n) there
    ∙ scaled (arrivals_in ticks phase) (sum_by (arrivals_in ticks) phases) times
    ∙ ap (λ n. n * times) (sym (sum_by-cons (arrivals_in ticks) phase phases))

-- ticks are at most the greatest period for each arrival
pub ticks_by_arrivals : (phase : Phase) → IsPhaseInRange phase → (ticks : ℕ) → phase.period ∣ ticks → ticks ≤ arrivals_in ticks phase * MOST_TICKS
ticks_by_arrivals phase is ticks divides =
    let turns = ticks / phase.period in
    let whole : turns * phase.period ≡ ticks = div-mul_cancel phase.period divides in
    let more : turns ≤ arrivals_in ticks phase = omega (arith, mul-le turns 1 turns phase.count (omega arith) is.is_phase.some) in
    omega (arith, whole, mul-le turns phase.period (arrivals_in ticks phase) MOST_TICKS more is.period)

-- ---- the phase of a task alone

-- a number is the least common multiple of itself and 1
itself_with_one : (period : ℕ) → 1 ≤ period → common_multiple period 1 ≡ period
itself_with_one period some =
    let least = common_is_least period 1 some (omega arith) in
    dvd_antisymm (least.least period (dvd_refl period) (one-dvd period)) least.first

-- a period has its count of arrivals
once : (period count : ℕ) → 1 ≤ period → count ≡ period / period * count
once period count some =
    let one : period / period ≡ 1 = ap (λ n. n / period) (omega arith) ∙ div-mul-add 1 period 0 some in
    omega (arith, ap (λ n. n * count) one)

-- no phase comes round with each tick
pub none_together : AreTogether [] 1 0
unfolding hyperperiod_of
none_together = record { ticks_are = refl; arrivals_are = refl; in_range = All-nil IsPhaseInRange }

-- one comes round with its period
pub one_together : (phase : Phase) → IsPhaseInRange phase → AreTogether (phase ∷ []) phase.period phase.count
unfolding hyperperiod_of
one_together phase is =
    let some : 1 ≤ phase.period = omega (arith, is.offset) in
    let itself : common_multiple phase.period 1 ≡ phase.period = itself_with_one phase.period some in
    let arrivals : phase.count ≡ common_multiple phase.period 1 / phase.period * phase.count =
    once phase.period phase.count some ∙ ap (λ n. n / phase.period * phase.count) (sym itself) in
    record {
      ticks_are = sym itself;
      arrivals_are = omega (arith, arrivals);
      in_range = All-cons IsPhaseInRange phase [] is (All-nil IsPhaseInRange);
    }

-- ---- one more phase

module _ (phase : Phase) (is : IsPhaseInRange phase) (phases : List Phase) (before arrivals : ℕ) (are : AreTogether phases before arrivals)
    (ticks : ℕ) (least : IsLcm phase.period before ticks) where
  -- all are in range
  all : All IsPhaseInRange (phase ∷ phases)
  all = All-cons IsPhaseInRange phase phases is are.in_range

  -- the hyperperiod with one more
  longer_is : ticks ≡ hyperperiod_of (phase ∷ phases)
  unfolding hyperperiod_of
  longer_is =
      one_multiple phase.period before ticks _ least
      (subst (λ n. IsLcm phase.period n (common_multiple phase.period (hyperperiod_of phases))) (sym are.ticks_are)
      (common_is_least phase.period (hyperperiod_of phases) (omega (arith, is.offset)) (hyperperiod_positive phases (have_periods phases are.in_range))))

  -- each period before divides the hyperperiod before
  divided : All (Divides before) phases
  divided = subst (λ n. All (Divides n) phases) (sym are.ticks_are) (hyperperiod_divided phases (have_periods phases are.in_range))

  -- how many arrive until all come round
  pub arrivals_with : arrivals_together (phase ∷ phases) ≡ arrivals_in ticks phase + arrivals * (ticks / before)
  arrivals_with =
      let whole : before * (ticks / before) ≡ ticks = omega (arith, div-mul_cancel before least.second) in
      let others : sum_by (arrivals_in ticks) phases ≡ arrivals * (ticks / before) =
      ap (λ n. sum_by (arrivals_in n) phases) (sym whole) ∙ sum_longer before (ticks / before) phases are.in_range divided
      ∙ ap (λ n. sum_by (arrivals_in n) phases * (ticks / before)) are.ticks_are ∙ ap (λ n. n * (ticks / before)) (sym are.arrivals_are) in
      ap (λ n. sum_by (arrivals_in n) (phase ∷ phases)) (sym longer_is) ∙ sum_by-cons (arrivals_in ticks) phase phases
      ∙ ap (λ n. arrivals_in ticks phase + n) others

  -- too many where these are too many ticks
  pub many_in_long : MOST_IN_CYCLE * MOST_TICKS < ticks → MOST_IN_CYCLE < arrivals_together (phase ∷ phases)
  many_in_long long =
      let many = ticks_by_arrivals phase is ticks least.first in
      omega (arith, long, many, arrivals_with)

  -- or where the code counts too many
  module _ (counted : ℕ) (counted_is : counted ≡ min (min (arrivals * (ticks / before)) (2 ^ 64 - 1) + arrivals_in ticks phase) (2 ^ 64 - 1)) where
    -- then there are too many
    pub many_counted : MOST_IN_CYCLE < counted → MOST_IN_CYCLE < arrivals_together (phase ∷ phases)
    many_counted many = omega (arith, many, counted_is, arrivals_with)

    -- else they are counted exactly
    same_counted : counted ≤ MOST_IN_CYCLE → counted ≡ arrivals_together (phase ∷ phases)
    same_counted few = omega (arith, few, counted_is, arrivals_with)

    -- so they come round together
    pub few_counted : counted ≤ MOST_IN_CYCLE → (arrivals_together (phase ∷ phases) ≤ MOST_IN_CYCLE) × AreTogether (phase ∷ phases) ticks counted
    few_counted few =
        let same = same_counted few in
        (omega (arith, few, same), record { ticks_are = longer_is; arrivals_are = same; in_range = all })
