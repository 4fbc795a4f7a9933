-- How far the moments of walks lie from 0, so that 64 signed bits hold them. Times are in ticks.
use Rattle.std.specs.Prelude.{ℕ, ◌*◌, ◌<◌, ◌≤◌, List, length}
use Rattle.cl_model.specs.declared.limits.TheConstants.{MOST_TICKS, MOST_STEPS}
use Rattle.cl_stim.specs.{Integers.IsIntegerWithin, Phase.IsPhaseInRange}
use Rattle.cl_phase.specs.{declared.{pace.{TheConstants.MOST_ARRIVALS, Pace.{Pace, TheVariants.{Kept, Free}}}, stop.Stop.Stop, walk.Ends.Ends}, Walks.{pace_at, lag_at}}

-- the moments from which walks start lie at most so far from 0
abbrev pub FARTHEST_START : ℕ
FARTHEST_START = 2000000000000000000

-- and those to which they lead
abbrev pub FARTHEST_WALKED : ℕ
FARTHEST_WALKED = 2500000000000000000

-- and the jobs beside those
abbrev pub FARTHEST_JOB : ℕ
FARTHEST_JOB = 2600000000000000000

-- walks are moved by at most so many ticks
abbrev pub FARTHEST_MOVE : ℕ
FARTHEST_MOVE = 4000000000000000000

-- the longest hyperperiod of phases that are kept
abbrev pub LONGEST_HYPERPERIOD : ℕ
LONGEST_HYPERPERIOD = MOST_ARRIVALS * MOST_TICKS

-- a pace whose numbers are those of a valid model
abbrev pub IsPaceInRange : Pace → Type 0
IsPaceInRange (Kept phase) = IsPhaseInRange phase
IsPaceInRange (Free greatest) = (1 ≤ greatest) × (greatest ≤ MOST_TICKS)

-- the groups of a chain of a valid model, on its walks
pub record AreStopsInRange (stops : List Stop) : Type 0 where
  pub some : 0 < length stops
  pub few : length stops ≤ MOST_STEPS
  pub paces : (place : ℕ) → place < length stops → IsPaceInRange (pace_at stops place)
  pub lags : (place : ℕ) → place < length stops → IsIntegerWithin MOST_TICKS (lag_at stops place)

-- its ends
pub record AreEndsInRange (ends : Ends) : Type 0 where
  pub read : ends.read ≤ MOST_TICKS
  pub write : ends.write ≤ MOST_TICKS
