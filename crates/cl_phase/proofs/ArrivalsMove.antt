-- The arrivals of a phase are the same again after each of its periods, so each has one in the first hyperperiod that
-- stands as it does.
use Rattle.std.proofs.Common.{◌≡◌, ℕ, ℤ, pos, negsuc, zero, suc, ◌+◌, ◌-◌, ◌*◌, ◌/◌, ◌%◌, ◌<◌, ◌≤◌, inl, inr, subst, arith}
use Rattle.std.specs.Prelude.{◌+ℤ◌, ◌-ℤ◌, ◌⊎◌}
use Rattle.std.specs.Int.{◌∣◌}
use Rattle.std.proofs.Math.IntN.{suc_ℤ, pred_ℤ, suc_ℤ-*ℤ, pred_ℤ-*ℤ}
use Rattle.std.proofs.Math.Nat.{div-mul_cancel, mod-lt}
use Rattle.std.proofs.lemmas.Int.{ints}
use Rattle.cl_stim.specs.{declared.phase.Phase.Phase, Phase.IsArrivalOf}

module _ (phase : Phase) where
  -- a period later, and a period earlier
  turn_later : (moment later : ℤ) → later ≡ (moment +ℤ pos phase.period) → IsArrivalOf phase moment → IsArrivalOf phase later
  turn_later moment later is arrival = record {
    turn = suc_ℤ arrival.turn;
    place = arrival.place;
    within = arrival.within;
    arrives = omega (arith, ints, is, arrival.arrives, suc_ℤ-*ℤ arrival.turn (pos phase.period));
  }

  turn_earlier : (moment earlier : ℤ) → (earlier +ℤ pos phase.period) ≡ moment → IsArrivalOf phase moment → IsArrivalOf phase earlier
  turn_earlier moment earlier is arrival = record {
    turn = pred_ℤ arrival.turn;
    place = arrival.place;
    within = arrival.within;
    arrives = omega (arith, ints, is, arrival.arrives, pred_ℤ-*ℤ arrival.turn (pos phase.period));
  }

  -- and so many periods
  later_by : (turns : ℕ) (moment later : ℤ) → later ≡ (moment +ℤ pos (turns * phase.period)) → IsArrivalOf phase moment → IsArrivalOf phase later
  later_by zero moment later is arrival = subst (λ z. IsArrivalOf phase z) (omega (arith, ints, is)) arrival
  later_by (suc turns) moment later is arrival =
      later_by turns (moment +ℤ pos phase.period) later (omega (arith, ints, is)) (turn_later moment (moment +ℤ pos phase.period) (omega (arith, ints)) arrival)

  earlier_by : (turns : ℕ) (moment earlier : ℤ) → (earlier +ℤ pos (turns * phase.period)) ≡ moment → IsArrivalOf phase moment → IsArrivalOf phase earlier
  earlier_by zero moment earlier is arrival = subst (λ z. IsArrivalOf phase z) (omega (arith, ints, is)) arrival
  earlier_by (suc turns) moment earlier is arrival =
      earlier_by turns (moment -ℤ pos phase.period) earlier (omega (arith, ints, is)) (turn_earlier moment (moment -ℤ pos phase.period) (omega (arith, ints)) arrival)

  module _ (ticks : ℕ) (round : phase.period ∣ ticks) (moment : ℤ) where
    pub arrives_later : (later : ℤ) → later ≡ (moment +ℤ pos ticks) → IsArrivalOf phase moment → IsArrivalOf phase later
    arrives_later later is arrival =
        later_by (ticks / phase.period) moment later (omega (arith, ints, is, div-mul_cancel phase.period round)) arrival

    pub arrives_earlier : (earlier : ℤ) → (earlier +ℤ pos ticks) ≡ moment → IsArrivalOf phase moment → IsArrivalOf phase earlier
    arrives_earlier earlier is arrival =
        earlier_by (ticks / phase.period) moment earlier (omega (arith, ints, is, div-mul_cancel phase.period round)) arrival

-- ---- moments in a hyperperiod

-- a moment stands in the first so many ticks as another does, some whole times later or earlier
pub record StandsAs (ticks : ℕ) (moment : ℤ) : Type 0 where
  pub first : ℕ
  pub below : first < ticks
  pub times : ℕ
  pub moved : (moment ≡ (pos first +ℤ pos (times * ticks))) ⊎ (pos first ≡ (moment +ℤ pos (times * ticks)))

pub stands_as : (ticks : ℕ) → 1 ≤ ticks → (moment : ℤ) → StandsAs ticks moment
stands_as ticks some (pos n) = record {
  first = n % ticks;
  below = mod-lt n some;
  times = n / ticks;
  moved = inl (let parts : n / ticks * ticks + n % ticks ≡ n = omega (arith, some) in omega (arith, ints, parts));
}
stands_as ticks some (negsuc n) =
    let parts : n / ticks * ticks + n % ticks ≡ n = omega (arith, some) in
    let below : n % ticks < ticks = mod-lt n some in
    record {
      first = ticks - suc (n % ticks);
      below = omega (arith, below);
      times = suc (n / ticks);
      moved = inr (omega (arith, ints, parts, below));
    }
