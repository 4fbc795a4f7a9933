-- Walks along a chain, from an arrival of one of its groups: onward to the arrivals that take what its jobs write, and
-- back to those that just miss it. Times are in ticks.
use Rattle.std.specs.Prelude.{ℕ, zero, suc, ◌+◌, ◌-◌, ℤ, pos, ◌+ℤ◌, ◌-ℤ◌, List, length, slice_index_or}
use Rattle.cl_phase.specs.{declared.{pace.Pace.{Pace, TheVariants.Free}, stop.Stop.Stop}, Pace.{first_from, last_by, previous}}

-- what stands past the last group
unfoldable pub no_stop : Stop
no_stop = record { pace = Free 0; lag = pos 0 }

-- the group of a place
abbrev pub stop_at : List Stop → (place : ℕ) → Stop
stop_at stops place = slice_index_or stops place no_stop

abbrev pub pace_at : List Stop → (place : ℕ) → Pace
pace_at stops place = (stop_at stops place).pace

-- the lag of the hop from the group of a place to the next
abbrev pub lag_at : List Stop → (place : ℕ) → ℤ
lag_at stops place = (stop_at stops place).lag

-- where the walk onward from an arrival of the group of a place has come after so many hops
unfoldable pub onward : List Stop → (place : ℕ) → (arrival : ℤ) → (hops : ℕ) → ℤ
onward stops place arrival zero = arrival
onward stops place arrival (suc hops) =
    first_from (pace_at stops (place + suc hops)) (onward stops place arrival hops +ℤ lag_at stops (place + hops))

-- where the walk back has come
unfoldable pub back : List Stop → (place : ℕ) → (arrival : ℤ) → (hops : ℕ) → ℤ
back stops place arrival zero = arrival
back stops place arrival (suc hops) =
    last_by (pace_at stops (place - suc hops)) (back stops place arrival hops -ℤ lag_at stops (place - suc hops))

abbrev pub last_place : List Stop → ℕ
last_place stops = length stops - 1

-- the arrival of the last group to which the walk from an arrival of the group of a place leads
abbrev pub arrival_at_last : List Stop → (place : ℕ) → (arrival : ℤ) → ℤ
arrival_at_last stops place arrival = onward stops place arrival (last_place stops - place)

-- the arrival of the first group from which the one before leads
abbrev pub arrival_at_first : List Stop → (place : ℕ) → (arrival : ℤ) → ℤ
arrival_at_first stops place arrival = back stops place (previous (pace_at stops place) arrival) place
