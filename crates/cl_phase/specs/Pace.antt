-- The steps of a group: from a moment to the first arrival that isn't before it, and to the last that isn't after it, as
-- far as the bounds know. Times are in ticks.
use Rattle.std.specs.Prelude.{ℕ, ℤ, pos, ◌+ℤ◌, ◌-ℤ◌, ◌≤ℤ◌, ◌≤◌, ◌-◌, ◌*◌}
use Rattle.std.specs.Int.{◌∣◌}
use Rattle.cl_stim.specs.Phase.{IsPhase, AreConsecutive, first_arrival, last_arrival}
use Rattle.cl_phase.specs.declared.pace.Pace.{Pace, TheVariants.{Kept, Free}}

-- the first arrival at or after a moment; without a phase the latest moment at which it may come
unfoldable pub first_from : Pace → (moment : ℤ) → ℤ
first_from (Kept phase) moment = first_arrival phase moment
first_from (Free greatest) moment = moment +ℤ (pos greatest -ℤ pos 1)

-- the last arrival at or before a moment; without a phase the earliest moment at which it may have come
unfoldable pub last_by : Pace → (moment : ℤ) → ℤ
last_by (Kept phase) moment = last_arrival phase moment
last_by (Free greatest) moment = moment -ℤ (pos greatest -ℤ pos 1)

-- the arrival before one
abbrev pub previous : Pace → (arrival : ℤ) → ℤ
previous pace arrival = last_by pace (arrival -ℤ pos 1)

-- the arrival after one; without a phase the latest moment at which it may come
abbrev pub next : Pace → (arrival : ℤ) → ℤ
next pace arrival = first_from pace (arrival +ℤ pos 1)

-- a pace that goes on
abbrev pub IsPace : Pace → Type 0
IsPace (Kept phase) = IsPhase phase
IsPace (Free greatest) = 1 ≤ greatest

-- two arrivals of a group, one after the other
abbrev pub AreNeighbours : Pace → (before after : ℤ) → Type 0
AreNeighbours (Kept phase) before after = AreConsecutive phase before after
AreNeighbours (Free greatest) before after = after ≤ℤ (before +ℤ pos greatest)

-- after so many ticks the arrivals are the same again
abbrev pub PaceComesRound : (ticks : ℕ) → Pace → Type 0
PaceComesRound ticks (Kept phase) = phase.period ∣ ticks
PaceComesRound ticks (Free greatest) = Unit {0}

-- the greatest distance between two arrivals
abbrev pub greatest_step : Pace → ℕ
greatest_step (Kept phase) = phase.period - (phase.count - 1) * phase.distance
greatest_step (Free greatest) = greatest
