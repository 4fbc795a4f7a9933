-- The hyperperiod of phases is the least common multiple of their periods.
use Rattle.std.proofs.Common.{ℕ, ◌≤◌, All, List, [], ◌∷◌, arith}
use Rattle.std.specs.Int.{◌∣◌}
use Rattle.std.proofs.Math.Nat.{dvd_trans, one-dvd}
use Rattle.std.proofs.lemmas.List.Elements.{All-head, All-tail, All-cons, All-nil, All-weaker}
use Rattle.cl_time.specs.Divisors.{IsLcm}
use Rattle.cl_stim.specs.{declared.phase.Phase.Phase, Multiples.hyperperiod_of}
use Rattle.cl_stim.proofs.Multiples.{common_positive, common_is_least}

-- a phase whose period isn't 0
abbrev pub HasPeriod : Phase → Type 0
HasPeriod phase = 1 ≤ phase.period

-- its period divides so many ticks
abbrev pub Divides : (ticks : ℕ) → Phase → Type 0
Divides ticks phase = phase.period ∣ ticks

pub hyperperiod_positive : (phases : List Phase) → All HasPeriod phases → 1 ≤ hyperperiod_of phases
unfolding hyperperiod_of
hyperperiod_positive [] all = omega arith
hyperperiod_positive (phase ∷ phases) all =
    common_positive phase.period (hyperperiod_of phases) (All-head HasPeriod phase phases all) (hyperperiod_positive phases (All-tail HasPeriod phase phases all))

-- the hyperperiod with one more phase
hyperperiod_more : (phase : Phase) (phases : List Phase) → All HasPeriod (phase ∷ phases)
    → IsLcm phase.period (hyperperiod_of phases) (hyperperiod_of (phase ∷ phases))
unfolding hyperperiod_of
hyperperiod_more phase phases all = common_is_least phase.period (hyperperiod_of phases)
    (All-head HasPeriod phase phases all) (hyperperiod_positive phases (All-tail HasPeriod phase phases all))

-- each period divides it
pub hyperperiod_divided : (phases : List Phase) → All HasPeriod phases → All (Divides (hyperperiod_of phases)) phases
hyperperiod_divided [] all = All-nil (Divides (hyperperiod_of []))
hyperperiod_divided (phase ∷ phases) all =
    let is = hyperperiod_more phase phases all in
    All-cons (Divides (hyperperiod_of (phase ∷ phases))) phase phases is.first
    (All-weaker (Divides (hyperperiod_of phases)) (Divides (hyperperiod_of (phase ∷ phases))) (λ other divides. dvd_trans other.period divides is.second)
    phases (hyperperiod_divided phases (All-tail HasPeriod phase phases all)))

-- and it divides each number that they all divide
pub hyperperiod_least : (phases : List Phase) → All HasPeriod phases → (ticks : ℕ) → All (Divides ticks) phases → hyperperiod_of phases ∣ ticks
unfolding hyperperiod_of
hyperperiod_least [] all ticks divide = one-dvd ticks
hyperperiod_least (phase ∷ phases) all ticks divide =
    (hyperperiod_more phase phases all).least ticks (All-head (Divides ticks) phase phases divide)
    (hyperperiod_least phases (All-tail HasPeriod phase phases all) ticks (All-tail (Divides ticks) phase phases divide))
