-- Bounds of moments near a beginning.
use Rattle.std.proofs.Common.{◌≡◌, ℕ, ◌≤◌, ℤ, pos, ◌+ℤ◌, ◌≤ℤ◌, arith}
use Rattle.std.proofs.lemmas.Int.{ints}
use Rattle.cl_stim.specs.Integers.{IsIntegerWithin}
use Rattle.cl_resp.specs.declared.phased.PhasedQuestion.{PhasedQuestion}
use Rattle.cl_resp.proofs.WorstPlaces.{IsNear, held}

module _ (question : PhasedQuestion) (arrival start : ℤ) (near : IsNear question arrival start) where
  pub start_within : IsIntegerWithin 20000000000000000 start
  start_within =
      (omega (arith, ints, near.there, near.after), omega (arith, ints, near.before, near.by, near.jitter))

  module _ (within : ℕ) (few : within ≤ 1000000000000) where
    pub latest_held : held (held arrival +ℤ held (pos within)) ≡ (arrival +ℤ pos within)
    latest_held = omega (arith, ints, near.there, near.before, few)

    pub latest_within : IsIntegerWithin 30000000000000000 (arrival +ℤ pos within)
    latest_within = (omega (arith, ints, near.there), omega (arith, ints, near.before, few))

    pub latest_near : (arrival +ℤ pos within) ≤ℤ (start +ℤ pos 2000000000000)
    latest_near = omega (arith, ints, near.after, few)
