-- Job chains from one group to the next, and from which jobs on all tasks have begun. Times are in ticks.
use Rattle.std.specs.Prelude.{◌≡◌, ℕ, suc, ◌+◌, ◌-◌, ◌<◌, ◌≤◌, List, length, slice_index, sum_by}
use Rattle.cl_exact.specs.{declared.beat.Beat.Beat, Inner.Beats.{beat_in, read_at, write_at, forward_job}}

-- the jobs of the forward chain from a first job
pub record IsForwardWalk (beats : List Beat) (first : ℕ) (jobs : List ℕ) : Type 0 where
  pub as_many : length jobs ≡ length beats
  pub each : (place : ℕ) → place < length beats → slice_index jobs place ≡ forward_job beats first place

-- a job is the last of its group that writes at or before the read of the next one's
pub record IsLastWritingJob (writer reader : Beat) (writing reading : ℕ) : Type 0 where
  pub before : write_at writer writing ≤ read_at reader reading
  pub greatest : (other : ℕ) → write_at writer other ≤ read_at reader reading → other ≤ writing

-- the jobs of the backward chain of a last job
pub record IsBackwardWalk (beats : List Beat) (last : ℕ) (jobs : List ℕ) : Type 0 where
  pub as_many : length jobs ≡ length beats
  pub linked : (place : ℕ) → suc place < length beats
      → IsLastWritingJob (beat_in beats place) (beat_in beats (suc place)) (slice_index jobs place) (slice_index jobs (suc place))
  pub last_is : slice_index jobs (length beats - 1) ≡ last

-- what a group adds to the start-up: its offset, its period and its deadline
abbrev pub start_of : Beat → ℕ
start_of beat = beat.offset + beat.period + beat.deadline

abbrev pub start_up_of : List Beat → ℕ
start_up_of beats = sum_by start_of beats

-- a moment by which job 1 of each group has arrived, and no later than it must be
pub record IsLatestSecond (beats : List Beat) (moment : ℕ) : Type 0 where
  pub above_all : (place : ℕ) → place < length beats → (beat_in beats place).offset + (beat_in beats place).period ≤ moment
  pub least : (other : ℕ) → ((place : ℕ) → place < length beats → (beat_in beats place).offset + (beat_in beats place).period ≤ other) → moment ≤ other
