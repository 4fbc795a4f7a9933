-- The greatest reactions of front parts of a chain: the parts that begin with its first group. Times are in ticks.
use Rattle.std.specs.Prelude.{◌≡◌, ℕ, ◌+◌, ◌-◌, ◌<◌, ◌≤◌, Option, List, length, take, slice_index, MatchOption}
use Rattle.cl_model.specs.declared.group.Group.{Group}
use Rattle.cl_runs.specs.TaskTiming.{System}
use Rattle.cl_exact.specs.{declared.{beat.Beat.Beat, fronts.{Front.Front, Scanned.Scanned}}, Hyperperiod.{IsWithinLimit, IsPastLimit}, Inner.{Beats.{AreBeatsOf, beat_in, read_at, forward_write, forward_start, reaction_of}, Walks.IsLatestSecond, Periods.IsLeastMultiple}}
use Rattle.cl_exact.specs.Inner.Found.{MOST_HYPERPERIOD, IsComplete}

-- how long the chain of a first job lasts, up to the write of the group of a place
abbrev pub reaction_to : List Beat → (place first : ℕ) → ℕ
reaction_to beats place first = forward_write beats first place - forward_start beats first

-- none of the first jobs from one up to another has a greater reaction up to a place and, where it isn't 0, one has it
pub record IsGreatestTo (beats : List Beat) (place first next greatest : ℕ) : Type 0 where
  pub above_all : (job : ℕ) → first ≤ job → job < next → reaction_to beats place job ≤ greatest
  pub attained : 1 ≤ greatest → (job : ℕ) × (first ≤ job) × (reaction_to beats place job ≡ greatest)

-- the greatest reactions up to each of the first places
abbrev pub AreGreatestTo : List Beat → (size first next : ℕ) → List ℕ → Type 0
AreGreatestTo beats size first next greatest =
    (place : ℕ) → place < size → IsGreatestTo beats place first next (slice_index greatest place)

-- the greatest reaction of all complete forward chains, which one has that begins when all tasks have begun
pub record IsGreatestSteady (beats : List Beat) (reaction : ℕ) : Type 0 where
  pub above_all : (first : ℕ) → IsComplete beats first → reaction_of beats first ≤ reaction
  pub job : ℕ
  pub attained : reaction_of beats job ≡ reaction
  pub latest : ℕ
  pub is_latest : IsLatestSecond beats latest
  pub late : latest ≤ read_at (beat_in beats 0) job

-- the greatest reaction of groups, or that their hyperperiod is past their limit
abbrev pub IsReactionOfBeats : List Beat → Option ℕ → Type 0
IsReactionOfBeats beats found = (system : System) (groups : List Group) → AreBeatsOf system groups beats
    → MatchOption found (IsPastLimit system groups) (λ reaction. IsWithinLimit system groups × IsGreatestSteady beats reaction)

-- a front part with its hyperperiod, which is early enough for a scan
pub record IsWidest (beats : List Beat) (front : Front) : Type 0 where
  pub some : 1 ≤ front.size
  pub size : front.size ≤ length beats
  pub least : IsLeastMultiple (take front.size beats) front.hyperperiod
  pub few : front.hyperperiod ≤ MOST_HYPERPERIOD

-- the greatest reaction of the front part up to each of the first places
abbrev pub IsShared : List Beat → Scanned → Type 0
IsShared beats scanned = (place : ℕ) → place < scanned.size → place < length beats
    → IsGreatestSteady (take (place + 1) beats) (slice_index scanned.reactions place)
