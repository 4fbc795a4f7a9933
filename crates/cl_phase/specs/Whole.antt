-- The whole walk of a chain that lasts as long as a bound: for each group a job that just misses and one that takes. Times
-- are in ticks.
use Rattle.std.specs.Prelude.{◌≡◌, ℕ, ◌-◌, ◌*◌, ◌≤◌, ℤ, pos, ◌+ℤ◌, ◌≤ℤ◌, ◌<ℤ◌, Bool, true, false, ◌==◌, nat_le, ◌&&◌, if◌then◌else◌, List, length, map}
use Rattle.std.specs.List.{range_with_len}
use Rattle.cl_model.specs.declared.{chain.{LengthKind.TheVariants.{Reaction, Age, Reduced}, RequirementKind.{RequirementKind, TheVariants.{Length, Delay}}}, group.Group.Group, limits.TheConstants.MOST_TICKS}
use Rattle.cl_runs.specs.TaskTiming.{System}
use Rattle.cl_hop.specs.declared.group_timing.GroupTiming.{GroupTiming}
use Rattle.cl_phase.specs.{declared.{pace.Pace.{Pace, TheVariants.{Kept, Free}}, stop.Stop.Stop, whole.WholeWalk.WholeWalk}, Pace.{previous, next}, Walks.{pace_at, last_place, onward, back}, TightBounds.{stops_of, span_of, last_write, slowest, hyperperiod_in}, Walked.walk_start}

-- whether a group keeps its phase
abbrev pub is_kept : Pace → Bool
is_kept (Kept phase) = true
is_kept (Free greatest) = false

-- the arrival of the job that just misses at a group: on the walk back from the arrival before a start, and behind the
-- group where it starts the one before the job that takes
unfoldable pub missed_at : List Stop → (place : ℕ) → (start : ℤ) → (group : ℕ) → ℤ
missed_at stops place start group =
    if nat_le group place then back stops place (previous (pace_at stops place) start) (place - group)
    else previous (pace_at stops group) (onward stops place start (group - place))

-- the arrival of the job that takes at a group: on the walk onward from the start, and before the group where it starts
-- the one after the job that just misses
unfoldable pub taken_at : List Stop → (place : ℕ) → (start : ℤ) → (group : ℕ) → ℤ
taken_at stops place start group =
    if nat_le place group then onward stops place start (group - place)
    else next (pace_at stops group) (back stops place (previous (pace_at stops place) start) (place - group))

-- whether a kind counts up to the job before the one that takes at the last group
abbrev pub takes_before : RequirementKind → Bool
takes_before (Length Reaction) = false
takes_before (Length Age) = false
takes_before (Length Reduced) = true
takes_before Delay = false

-- up to which job of a group a kind counts
abbrev pub counted_at : RequirementKind → List Stop → (place : ℕ) → (start : ℤ) → (group : ℕ) → ℤ
counted_at kind stops place start group =
    if takes_before kind && group == last_place stops then previous (pace_at stops group) (taken_at stops place start group)
    else taken_at stops place start group

-- from then on at the latest the fixed arrivals of a valid model are those of their phases
abbrev pub LATEST_STEADY : ℕ
LATEST_STEADY = 3 * MOST_TICKS

-- so many ticks are the least whole turns, 0 or more, by which a moment reaches another
pub record IsLeastTurns (moment goal : ℤ) (turn : ℕ) (ticks : ℤ) : Type 0 where
  pub turns : ℕ
  pub are : ticks ≡ pos (turns * turn)
  pub reach : goal ≤ℤ (moment +ℤ ticks)
  pub least : 1 ≤ turns → (moment +ℤ ticks) <ℤ (goal +ℤ pos turn)

-- the walk from a start of the group that has the fewest to make, moved by hyperperiods
pub record IsMovedWalk (stops : List Stop) (kind : RequirementKind) (start : ℤ) (walk : WholeWalk) : Type 0 where
  pub turns : ℕ
  pub kept : walk.kept ≡ map (λ group. is_kept (pace_at stops group)) (range_with_len 0 (length stops))
  pub missed : walk.missed ≡ map (λ group. missed_at stops (slowest stops) start group +ℤ pos (turns * hyperperiod_in stops))
      (range_with_len 0 (length stops))
  pub taken : walk.taken ≡ map (λ group. counted_at kind stops (slowest stops) start group +ℤ pos (turns * hyperperiod_in stops))
      (range_with_len 0 (length stops))

-- the whole walk of groups of a system, where this is what is known of them, that lasts as long as a bound of a kind
abbrev pub IsWholeWalkOf : System → (timing : Group → GroupTiming) → List Group → RequirementKind → (bound : ℕ) → WholeWalk → Type 0
IsWholeWalkOf system timing groups kind bound walk =
    let stops = stops_of system timing groups in
    IsMovedWalk stops kind (pos (walk_start kind stops (span_of timing groups) (last_write timing groups) (slowest stops) bound)) walk
