-- What is found of a chain on the way to its exact lengths. Times are in ticks.
use Rattle.std.specs.Prelude.{◌≡◌, ℕ, ◌+◌, ◌-◌, ◌<◌, ◌≤◌, List, length, slice_index}
use Rattle.cl_exact.specs.{declared.{beat.Beat.Beat, witness.Witness.Witness}, Inner.{Beats.{beat_in, read_at, write_at, forward_job, forward_start, forward_end, reaction_of}, Scans.NoneHas, Walks.{IsForwardWalk, IsBackwardWalk, start_up_of}}}

-- the most ticks of a hyperperiod within the limit
abbrev pub MOST_HYPERPERIOD : ℕ
MOST_HYPERPERIOD = 1000000000000000000

abbrev pub last_beat : List Beat → Beat
last_beat beats = beat_in beats (length beats - 1)

-- no job of the forward chain from a first job has number 0
abbrev pub IsComplete : List Beat → (first : ℕ) → Type 0
IsComplete beats first = (place : ℕ) → place < length beats → 1 ≤ forward_job beats first place

-- the greatest reaction of all complete forward chains: none of them has a greater one, and of any `count` first jobs
-- in a row one has it
pub record IsGreatestReaction (beats : List Beat) (count reaction : ℕ) : Type 0 where
  pub above_all : (first : ℕ) → IsComplete beats first → reaction_of beats first ≤ reaction
  pub everywhere : (first : ℕ) → IsComplete beats first → NoneHas beats first count reaction → ⊥

-- the age of a backward chain
abbrev pub age_of : List Beat → (last : ℕ) → (jobs : List ℕ) → ℕ
age_of beats last jobs = write_at (last_beat beats) (last + 1) - read_at (beat_in beats 0) (slice_index jobs 0)

-- of the last jobs that read at or after the start-up, the least whose backward chain has this age
pub record IsOldest (beats : List Beat) (age last : ℕ) : Type 0 where
  pub late : start_up_of beats ≤ read_at (last_beat beats) last
  pub has : (jobs : List ℕ) → IsBackwardWalk beats last jobs → age_of beats last jobs ≡ age
  pub first_of : (other : ℕ) (jobs : List ℕ) → start_up_of beats ≤ read_at (last_beat beats) other → IsBackwardWalk beats other jobs
      → age_of beats other jobs ≡ age → last ≤ other

-- the forward chain from a first job
pub record IsForwardWitness (beats : List Beat) (first : ℕ) (witness : Witness) : Type 0 where
  pub jobs : IsForwardWalk beats first witness.jobs
  pub from : witness.from ≡ forward_start beats first
  pub to : witness.to ≡ forward_end beats first
  pub length : witness.length ≡ witness.to - witness.from

-- the backward chain of a last job, by its age
pub record IsAgeWitness (beats : List Beat) (last : ℕ) (witness : Witness) : Type 0 where
  pub jobs : IsBackwardWalk beats last witness.jobs
  pub from : witness.from ≡ read_at (beat_in beats 0) (slice_index witness.jobs 0)
  pub to : witness.to ≡ write_at (last_beat beats) (last + 1)
  pub length : witness.length ≡ witness.to - witness.from

-- the same chain, by its reduced age
pub record IsSameUpTo (age : Witness) (period : ℕ) (witness : Witness) : Type 0 where
  pub jobs : witness.jobs ≡ age.jobs
  pub from : witness.from ≡ age.from
  pub to : witness.to ≡ age.to - period
  pub length : witness.length ≡ age.length - period
