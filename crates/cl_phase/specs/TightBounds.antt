-- The tight bounds of a chain: the longest that its walks last. Times are in ticks.
use Rattle.std.specs.Prelude.{ℕ, ℤ, pos, negsuc, ◌+ℤ◌, ◌-ℤ◌, Bool, true, false, nat_le, List, [], ◌∷◌, map, filter, find, unwrap_or, length}
use Rattle.std.specs.List.{list_all, range_with_len}
use Rattle.cl_model.specs.{Holds.greatest_by, declared.group.Group.Group, Timing.greatest_distance}
use Rattle.cl_runs.specs.TaskTiming.{System, timing_at}
use Rattle.cl_stim.specs.{declared.phase.Phase.Phase, Phase.{phase_of, arrives_at, arrivals_in}, Multiples.hyperperiod_of}
use Rattle.cl_hop.specs.{Bounds.{Lengths, last_of}, Hops.lag, declared.group_timing.GroupTiming.GroupTiming}
use Rattle.cl_phase.specs.{declared.{pace.Pace.{Pace, TheVariants.{Kept, Free}}, stop.Stop.Stop}, Pace.{previous, next}, Kept.{phase_beside, kept_with, pace_with, phases_in}, Walks.{pace_at, last_place, arrival_at_last, arrival_at_first}}

-- ---- the groups of a chain

-- the lag of the hop from a group to the one after it, where this is what is known of groups
abbrev pub lag_to_next : (timing : Group → GroupTiming) → Group → (later : List Group) → ℤ
lag_to_next timing group [] = pos 0
lag_to_next timing group (next ∷ later) = lag (timing group) (timing next)

-- groups with their paces, beside the phases that are kept so far, and the lags of their hops
unfoldable pub stops_beside : System → (timing : Group → GroupTiming) → (kept : List Phase) → List Group → List Stop
stops_beside system timing kept [] = []
stops_beside system timing kept (group ∷ later) =
    let kind = (timing_at system group.task).pattern in
    let phase = phase_beside kept (phase_of kind) in
    record { pace = pace_with (greatest_distance kind) phase; lag = lag_to_next timing group later }
    ∷ stops_beside system timing (kept_with kept phase) later

-- the groups of a whole chain
abbrev pub stops_of : System → (timing : Group → GroupTiming) → List Group → List Stop
stops_of system timing groups = stops_beside system timing [] groups

-- the hyperperiod of the phases that are kept
abbrev pub hyperperiod_in : List Stop → ℕ
hyperperiod_in stops = hyperperiod_of (phases_in (map (λ (stop : Stop). stop.pace) stops))

-- ---- where walks start

-- the fewest of the arrivals in so many ticks: a group keeps its phase, and no other that does has fewer
abbrev pub has_no_fewer : (ticks : ℕ) → Phase → (other : Pace) → Bool
has_no_fewer ticks phase (Kept other) = nat_le (arrivals_in ticks phase) (arrivals_in ticks other)
has_no_fewer ticks phase (Free greatest) = true

abbrev pub is_slowest : List Stop → (ticks : ℕ) → Pace → Bool
is_slowest stops ticks (Kept phase) = list_all (λ (stop : Stop). has_no_fewer ticks phase stop.pace) stops
is_slowest stops ticks (Free greatest) = false

-- the first group with the fewest arrivals in the hyperperiod, of those that keep their phase; the first group of all
-- where none does
unfoldable pub slowest : List Stop → ℕ
slowest stops =
    unwrap_or (find (λ place. is_slowest stops (hyperperiod_in stops) (pace_at stops place)) (range_with_len 0 (length stops))) 0

-- where walks from a group start: at each of its arrivals in the first hyperperiod, or anywhere where none is fixed
abbrev pub starts : Pace → (ticks : ℕ) → List ℕ
starts (Kept phase) ticks = filter (λ moment. arrives_at phase (pos moment)) (range_with_len 0 ticks)
starts (Free greatest) ticks = 0 ∷ []

-- ---- lengths

-- a number of ticks as it is, 0 where it would be below
abbrev pub ticks_or_none : ℤ → ℕ
ticks_or_none (pos ticks) = ticks
ticks_or_none (negsuc lacking) = 0

-- how long the walks from an arrival of the group of a place last: from the read of the first group's job that just
-- misses, to the write of the last group's that takes. `span` is the latest write of the last group less the earliest
-- read of the first, from their arrivals
abbrev pub length_from : List Stop → (span : ℤ) → (place : ℕ) → (arrival : ℤ) → ℤ
length_from stops span place arrival = (arrival_at_last stops place arrival -ℤ arrival_at_first stops place arrival) +ℤ span

-- to the write of the job before
abbrev pub reduced_from : List Stop → (span : ℤ) → (place : ℕ) → (arrival : ℤ) → ℤ
reduced_from stops span place arrival =
    (previous (pace_at stops (last_place stops)) (arrival_at_last stops place arrival) -ℤ arrival_at_first stops place arrival) +ℤ span

-- from the arrival of the first group's job after the one that just misses, to the write of the last group's that takes.
-- `write` is the latest write of the last group, from its arrival
abbrev pub delay_from : List Stop → (write : ℕ) → (place : ℕ) → (arrival : ℤ) → ℤ
delay_from stops write place arrival =
    (arrival_at_last stops place arrival -ℤ next (pace_at stops 0) (arrival_at_first stops place arrival)) +ℤ pos write

-- the bounds by the walks from the group of a place: the longest
unfoldable pub bounds_from : List Stop → (span : ℤ) → (write : ℕ) → (place : ℕ) → Lengths
bounds_from stops span write place =
    let from = starts (pace_at stops place) (hyperperiod_in stops) in
    let longest = greatest_by (λ arrival. ticks_or_none (length_from stops span place (pos arrival))) from in
    record {
      reaction = longest;
      age = longest;
      reduced = greatest_by (λ arrival. ticks_or_none (reduced_from stops span place (pos arrival))) from;
      delay = greatest_by (λ arrival. ticks_or_none (delay_from stops write place (pos arrival))) from;
    }

-- ---- the tight bounds

-- the latest write of the last group less the earliest read of the first
abbrev pub span_of : (timing : Group → GroupTiming) → List Group → ℤ
span_of timing [] = pos 0
span_of timing (first ∷ later) =
    pos (last_of (timing first) (map timing later)).write
    -ℤ pos (timing first).read

-- the latest write of the last group
abbrev pub last_write : (timing : Group → GroupTiming) → List Group → ℕ
last_write timing [] = 0
last_write timing (first ∷ later) = (last_of (timing first) (map timing later)).write

-- The tight bounds of groups of a system that follow each other, where this is what is known of groups: by the walks
-- from the group that has the fewest to make. All groups that keep their phase give the same numbers, which is a
-- law.
unfoldable pub tight_bounds : System → (timing : Group → GroupTiming) → List Group → Lengths
tight_bounds system timing groups =
    let stops = stops_of system timing groups in
    bounds_from stops (span_of timing groups) (last_write timing groups) (slowest stops)
