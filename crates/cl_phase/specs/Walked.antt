-- Why the tight bound of a chain is what it is: the arrivals of a walk that lasts as long. Times are in ticks.
use Rattle.std.specs.Prelude.{ℕ, ◌+◌, ◌-◌, ℤ, pos, ◌==◌, List, map, find, unwrap_or}
use Rattle.std.specs.List.{range_with_len}
use Rattle.cl_model.specs.declared.{chain.{LengthKind.TheVariants.{Reaction, Age, Reduced}, RequirementKind.{RequirementKind, TheVariants.{Length, Delay}}}, group.Group.Group}
use Rattle.cl_runs.specs.TaskTiming.{System}
use Rattle.cl_hop.specs.declared.group_timing.GroupTiming.{GroupTiming}
use Rattle.cl_phase.specs.{declared.{stop.Stop.Stop, walked.Walked.Walked}, Pace.previous, Walks.{pace_at, last_place, onward, back}, TightBounds.{stops_of, span_of, last_write, slowest, hyperperiod_in, starts, ticks_or_none, length_from, reduced_from, delay_from}}

-- how long the walks from an arrival of the group of a place last, of a kind
abbrev pub lasts_from : RequirementKind → List Stop → (span : ℤ) → (write place : ℕ) → (arrival : ℤ) → ℤ
lasts_from (Length Reaction) stops span write place arrival = length_from stops span place arrival
lasts_from (Length Age) stops span write place arrival = length_from stops span place arrival
lasts_from (Length Reduced) stops span write place arrival = reduced_from stops span place arrival
lasts_from Delay stops span write place arrival = delay_from stops write place arrival

-- the first start, of these, whose walks last this long, 0 where there is none
unfoldable pub start_among : RequirementKind → List Stop → (span : ℤ) → (write place bound : ℕ) → (from : List ℕ) → ℕ
start_among kind stops span write place bound from =
    unwrap_or (find (λ arrival. ticks_or_none (lasts_from kind stops span write place (pos arrival)) == bound) from) 0

-- the first start whose walks do
abbrev pub walk_start : RequirementKind → List Stop → (span : ℤ) → (write place bound : ℕ) → ℕ
walk_start kind stops span write place bound = start_among kind stops span write place bound (starts (pace_at stops place) (hyperperiod_in stops))

-- the arrivals of the jobs that just miss, from the first group to that of a place: the walk back from the arrival before
-- a start
unfoldable pub missed : List Stop → (place : ℕ) → (start : ℤ) → List ℤ
missed stops place start = map (λ group. back stops place (previous (pace_at stops place) start) (place - group)) (range_with_len 0 (place + 1))

-- the arrivals of the jobs that take, from the group of a place to the last: the walk onward from the start
unfoldable pub taken : List Stop → (place : ℕ) → (start : ℤ) → List ℤ
taken stops place start = map (onward stops place start) (range_with_len 0 (last_place stops - place + 1))

-- the walk of groups of a system, where this is what is known of them, from the group that has the fewest to make, which
-- lasts this long
unfoldable pub walked_of : System → (timing : Group → GroupTiming) → List Group → (reaction : ℕ) → Walked
walked_of system timing groups reaction =
    let stops = stops_of system timing groups in
    let place = slowest stops in
    let start = pos (walk_start (Length Reaction) stops (span_of timing groups) (last_write timing groups) place reaction) in
    record { place = place; missed = missed stops place start; taken = taken stops place start }
