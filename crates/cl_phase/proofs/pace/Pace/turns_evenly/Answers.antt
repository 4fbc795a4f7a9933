use Rattle.std.proofs.Common.{ℕ, ◌*◌, ◌/◌, eqb-true, sym, subst}
use Rattle.std.specs.Int.{◌∣◌}
use Rattle.std.proofs.Math.Nat.{div-mul_cancel, mul-dvd-mul_right}
use Rattle.std.proofs.lemmas.Nat.Gcd.{dvd_of_mod-eq-zero}
use Rattle.cl_phase.specs.Inner.Even.{AreEvenTurns}
use Rattle.cl_phase.proofs.pace.Pace.turns_evenly.Goals as goal

-- ticks of whole periods that are a multiple of so many
whole_times : (ticks period times : ℕ) → period ∣ ticks → times ∣ (ticks / period) → (times * period) ∣ ticks
whole_times ticks period times whole even = subst (λ n. (times * period) ∣ n) (div-mul_cancel period whole) (mul-dvd-mul_right times even period)

pub returns-then-ticks-phase-eq0 : goal.returns-then-ticks-phase-eq0
returns-then-ticks-phase-eq0 c = λ even.
    let period = c.in-Kept.phase.period in
    let whole : period ∣ c.args.ticks = dvd_of_mod-eq-zero period c.if-ticks-phase-eq0.true in
    let times : c.args.times ∣ (c.args.ticks / period) = dvd_of_mod-eq-zero c.args.times (eqb-true _ _ even) in
    subst (λ pace. AreEvenTurns pace c.args.ticks c.args.times) (sym c.in-Kept.is) (whole_times c.args.ticks period c.args.times whole times)
