-- What walks need of a pace: its two steps answer each other, go no further than its greatest distance, are the same
-- again after it has come round, and bound a job's arrival by that of its neighbour.
use Rattle.std.specs.Prelude.{◌≡◌, ℕ, ℤ, pos, ◌+ℤ◌, ◌-ℤ◌, ◌≤ℤ◌}
use Rattle.cl_phase.specs.{declared.pace.Pace.Pace, Pace.{first_from, last_by, previous, AreNeighbours, PaceComesRound, greatest_step}}

pub record IsStepped (pace : Pace) : Type 0 where
  pub onward_back : (from to : ℤ) → first_from pace from ≤ℤ to → from ≤ℤ last_by pace to
  pub back_onward : (from to : ℤ) → from ≤ℤ last_by pace to → first_from pace from ≤ℤ to
  pub first_near : (moment : ℤ) → first_from pace moment ≤ℤ (moment +ℤ (pos (greatest_step pace) -ℤ pos 1))
  pub last_near : (moment : ℤ) → (moment -ℤ (pos (greatest_step pace) -ℤ pos 1)) ≤ℤ last_by pace moment
  pub first_moves : (ticks : ℕ) → PaceComesRound ticks pace → (moment : ℤ) → first_from pace (moment +ℤ pos ticks) ≡ (first_from pace moment +ℤ pos ticks)
  pub last_moves : (ticks : ℕ) → PaceComesRound ticks pace → (moment : ℤ) → last_by pace (moment +ℤ pos ticks) ≡ (last_by pace moment +ℤ pos ticks)
  pub not_before_previous : (before after : ℤ) → AreNeighbours pace before after → previous pace after ≤ℤ before
  pub after_by : (before after moment : ℤ) → AreNeighbours pace before after → (before +ℤ pos 1) ≤ℤ moment → after ≤ℤ first_from pace moment
  pub before_from : (before after moment : ℤ) → AreNeighbours pace before after → (moment +ℤ pos 1) ≤ℤ after → last_by pace moment ≤ℤ before
  pub before_by : (before after moment : ℤ) → AreNeighbours pace before after → (before +ℤ pos 1) ≤ℤ moment → before ≤ℤ previous pace (first_from pace moment)
