-- The test whether a job of a phase arrives at a moment.
use Rattle.std.proofs.Common.{◌≡◌, ℕ, true, ℤ, pos, ◌+ℤ◌, ◌-ℤ◌, ◌≤ℤ◌, subst, arith}
use Rattle.std.proofs.lemmas.Int.{ints}
use Rattle.std.proofs.lemmas.Bool.{eqb-true, eq-eqb}
use Rattle.cl_stim.specs.{declared.phase.Phase.Phase, Phase.{IsPhase, IsArrivalOf, since_turn, last_in_turn, arrives_at}}
use Rattle.cl_stim.proofs.PhaseSteps.{last_arrives, last_before, last_after}

-- the test whether a job arrives at a moment says so
module _ (phase : Phase) (is : IsPhase phase) (moment : ℤ) where
  pub arrives_from_test : arrives_at phase moment ≡ true → IsArrivalOf phase moment
  arrives_from_test passes = subst (IsArrivalOf phase)
      (stays moment (since_turn phase moment) (last_in_turn phase (since_turn phase moment)) (eqb-true _ _ passes)) (last_arrives phase is moment)
    where
      stays : (moment : ℤ) (since ticks : ℕ) → ticks ≡ since → ((moment -ℤ pos since) +ℤ pos ticks) ≡ moment
      stays moment since ticks same = omega (arith, ints, same)

  pub test_from_arrival : IsArrivalOf phase moment → arrives_at phase moment ≡ true
  test_from_arrival arrives = eq-eqb (last_in_turn phase (since_turn phase moment)) (since_turn phase moment)
      (as_far moment (since_turn phase moment) (last_in_turn phase (since_turn phase moment))
      (last_before phase is moment) (last_after phase is moment moment arrives (itself moment)))
    where
      itself : (a : ℤ) → a ≤ℤ a
      itself a = omega (arith, ints)

      as_far : (moment : ℤ) (since ticks : ℕ) → ((moment -ℤ pos since) +ℤ pos ticks) ≤ℤ moment → moment ≤ℤ ((moment -ℤ pos since) +ℤ pos ticks) → ticks ≡ since
      as_far moment since ticks before after = omega (arith, ints, before, after)
