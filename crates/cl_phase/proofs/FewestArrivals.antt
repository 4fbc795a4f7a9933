-- The fewest arrivals of phases, and whether they come round soon. Times are in ticks.
use Rattle.std.proofs.Common.{◌≡◌, ℕ, ◌+◌, ◌-◌, ◌*◌, ◌/◌, ◌^◌, ◌<◌, ◌≤◌, Bool, false, nat_le, ◌||◌, List, [], ◌∷◌, min, All, refl, ap, sym, ◌∙◌, arith, inl, inr}
use Rattle.std.specs.Int.{◌∣◌}
use Rattle.std.specs.List.{list_any}
use Rattle.std.proofs.lemmas.Bool.{cases_lt}
use Rattle.std.proofs.lemmas.Bool.Decides.{nat_tests}
use Rattle.std.proofs.lemmas.Nat.{div-mul-add, div-add-mod', mul-le}
use Rattle.std.proofs.lemmas.List.Elements.{All-head, All-tail}
use Rattle.std.proofs.Math.Nat.{div-mul_cancel}
use Rattle.cl_model.specs.declared.limits.TheConstants.{MOST_TICKS}
use Rattle.cl_stim.specs.{declared.phase.Phase.Phase, Phase.{IsPhaseInRange, arrivals_in}}
use Rattle.cl_phase.specs.{declared.pace.TheConstants.MOST_ARRIVALS, Inner.{Ranges.LONGEST_HYPERPERIOD, Keeping.fewest_in}}
use Rattle.cl_stim.proofs.Hyperperiods.{Divides}

-- whether one of the phases has few arrivals
abbrev pub some_has_few : (ticks most : ℕ) → List Phase → Bool
some_has_few ticks most phases = list_any (λ (phase : Phase). nat_le (arrivals_in ticks phase) most) phases

or_by_least : (m n most : ℕ) → (nat_le m most || nat_le n most) ≡ nat_le (min m n) most
or_by_least m n most = grind (arith, nat_tests)

past_most : (n most : ℕ) → most < n → false ≡ nat_le n most
past_most n most less = grind (arith, nat_tests)

-- one has few where the fewest are few
pub few_by_fewest : (ticks most : ℕ) (phases : List Phase) → most < 2 ^ 64 - 1 → some_has_few ticks most phases ≡ nat_le (fewest_in ticks phases) most
few_by_fewest ticks most [] below = past_most (2 ^ 64 - 1) most below
few_by_fewest ticks most (phase ∷ phases) below =
    ap (λ b. nat_le (arrivals_in ticks phase) most || b) (few_by_fewest ticks most phases below)
    ∙ or_by_least (arrivals_in ticks phase) (fewest_in ticks phases) most

-- ---- longer hyperperiods

module _ (phase : Phase) (is : IsPhaseInRange phase) (ticks : ℕ) where
  some_period : 1 ≤ phase.period
  some_period = omega (arith, is.offset)

  pub count_fits : phase.count ≤ phase.period
  count_fits = omega (arith, is.is_phase.fits, mul-le phase.count 1 phase.count phase.distance (omega arith) is.is_phase.apart)

  -- so many times as long, so many times the arrivals
  pub arrivals_longer : (times : ℕ) → phase.period ∣ ticks → arrivals_in (ticks * times) phase ≡ arrivals_in ticks phase * times
  arrivals_longer times divides =
      let turns = ticks / phase.period in
      let whole : turns * phase.period ≡ ticks = div-mul_cancel phase.period divides in
      let longer : ticks * times ≡ turns * times * phase.period + 0 = omega (arith, ap (λ n. n * times) whole) in
      let counted : ticks * times / phase.period ≡ turns * times =
      ap (λ n. n / phase.period) longer ∙ div-mul-add (turns * times) phase.period 0 some_period in
      ap (λ n. n * phase.count) counted ∙ (omega arith)

  -- no more arrivals than ticks
  pub arrivals_few : arrivals_in ticks phase ≤ ticks
  arrivals_few =
      omega (
        arith,
        div-add-mod' ticks phase.period,
        mul-le (ticks / phase.period) phase.count (ticks / phase.period) phase.period (omega arith) count_fits,
      )

  -- and many in a long hyperperiod
  pub arrivals_many : phase.period ∣ ticks → LONGEST_HYPERPERIOD < ticks → MOST_ARRIVALS < arrivals_in ticks phase
  arrivals_many divides long =
      let turns = ticks / phase.period in
      let whole : turns * phase.period ≡ ticks = div-mul_cancel phase.period divides in
      let more : turns ≤ arrivals_in ticks phase = omega (arith, mul-le turns 1 turns phase.count (omega arith) is.is_phase.some) in
      elim (cases_lt MOST_ARRIVALS turns) [
        | inl less ↦ omega (arith, less, more)
        | inr not ↦ absurd (omega (arith, long, whole, mul-le turns phase.period MOST_ARRIVALS MOST_TICKS not is.period))
      ]

least_longer : (arrivals fewest times : ℕ) → arrivals * times < 2 ^ 64
    → min (arrivals * times) (min (fewest * times) (2 ^ 64 - 1)) ≡ min (min arrivals fewest * times) (2 ^ 64 - 1)
least_longer arrivals fewest times fits = elim (cases_lt arrivals fewest) [
  | inl less ↦
      let least : min arrivals fewest ≡ arrivals = omega (arith, less) in
      omega (arith, ap (λ n. n * times) least, mul-le arrivals times fewest times (omega (arith, less)) (omega arith), fits)
  | inr not ↦
      let least : min arrivals fewest ≡ fewest = omega (arith, not) in
      omega (arith, ap (λ n. n * times) least, mul-le fewest times arrivals times not (omega arith), fits)
]

-- so with the fewest of them
pub fewest_longer : (ticks times : ℕ) (phases : List Phase) → 1 ≤ times → All IsPhaseInRange phases → All (Divides ticks) phases
    → ticks * times ≤ LONGEST_HYPERPERIOD → fewest_in (ticks * times) phases ≡ min (fewest_in ticks phases * times) (2 ^ 64 - 1)
fewest_longer ticks times [] some are divide short = omega (arith, mul-le (2 ^ 64 - 1) 1 (2 ^ 64 - 1) times (omega arith) some)
fewest_longer ticks times (phase ∷ phases) some are divide short =
    let is = All-head IsPhaseInRange phase phases are in
    let divides = All-head (Divides ticks) phase phases divide in
    let here = arrivals_longer phase is ticks times divides in
    let there = fewest_longer ticks times phases some (All-tail IsPhaseInRange phase phases are) (All-tail (Divides ticks) phase phases divide) short in
    let fits : arrivals_in ticks phase * times < 2 ^ 64 =
    omega (arith, mul-le (arrivals_in ticks phase) times ticks times (arrivals_few phase is ticks) (omega arith), short) in
    ap (λ n. min n (fewest_in (ticks * times) phases)) here ∙ ap (min (arrivals_in ticks phase * times)) there
    ∙ least_longer (arrivals_in ticks phase) (fewest_in ticks phases) times fits

pub none_has_few : (ticks : ℕ) (phases : List Phase) → All IsPhaseInRange phases → All (Divides ticks) phases → LONGEST_HYPERPERIOD < ticks
    → some_has_few ticks MOST_ARRIVALS phases ≡ false
none_has_few ticks [] are divide long = refl
none_has_few ticks (phase ∷ phases) are divide long =
    let many = arrivals_many phase (All-head IsPhaseInRange phase phases are) ticks (All-head (Divides ticks) phase phases divide) long in
    ap (λ b. b || some_has_few ticks MOST_ARRIVALS phases) (sym (past_most (arrivals_in ticks phase) MOST_ARRIVALS many))
    ∙ none_has_few ticks phases (All-tail IsPhaseInRange phase phases are) (All-tail (Divides ticks) phase phases divide) long
