-- What the code keeps of a group: when its jobs read and write, and how a chain goes from group to group. Times are in
-- ticks.
use Rattle.std.specs.Prelude.{◌≡◌, ℕ, zero, suc, ◌+◌, ◌-◌, ◌*◌, ◌/◌, ◌<◌, ◌≤◌, List, length, slice_index_or}
use Rattle.cl_model.specs.{declared.{limits.TheConstants.{MOST_TICKS, MOST_STEPS}, group.Group.Group, stimulus.StimulusKind.TheVariants.Periodic}, Groups.group_at}
use Rattle.cl_runs.specs.TaskTiming.{Timing, System, timing_at}
use Rattle.cl_exact.specs.declared.beat.Beat.{Beat}

-- the numbers of a beat are in range
pub record IsBeat (beat : Beat) : Type 0 where
  pub offset : beat.offset ≤ MOST_TICKS
  pub some_period : 1 ≤ beat.period
  pub period : beat.period ≤ MOST_TICKS
  pub some_deadline : 1 ≤ beat.deadline
  pub deadline : beat.deadline ≤ MOST_TICKS

-- what stands past the last group
abbrev pub no_beat : Beat
no_beat = record { offset = 0; period = 0; deadline = 0 }

abbrev pub beat_in : List Beat → (place : ℕ) → Beat
beat_in beats place = slice_index_or beats place no_beat

-- the beats of the groups of a chain
pub record AreBeats (beats : List Beat) : Type 0 where
  pub some : 0 < length beats
  pub few : length beats ≤ MOST_STEPS
  pub each : (place : ℕ) → place < length beats → IsBeat (beat_in beats place)

-- the beat of a periodic task
pub record IsBeatOf (task : Timing) (beat : Beat) : Type 0 where
  pub jitter : ℕ
  pub periodic : task.pattern ≡ Periodic beat.period beat.offset jitter
  pub deadline : task.deadline ≡ beat.deadline

-- the beats of these groups of a system
pub record AreBeatsOf (system : System) (groups : List Group) (beats : List Beat) : Type 0 where
  pub are_beats : AreBeats beats
  pub as_many : length beats ≡ length groups
  pub each : (place : ℕ) → place < length groups → IsBeatOf (timing_at system (group_at groups place).task) (beat_in beats place)

-- when a job reads, and when it writes
abbrev pub read_at : Beat → (job : ℕ) → ℕ
read_at beat job = beat.offset + job * beat.period

abbrev pub write_at : Beat → (job : ℕ) → ℕ
write_at beat job = read_at beat job + beat.deadline

-- the first job that reads at or after a moment
unfoldable pub first_reader : Beat → (moment : ℕ) → ℕ
first_reader beat moment = (moment - beat.offset + (beat.period - 1)) / beat.period

-- the last job that writes at or before a moment
unfoldable pub last_writer : Beat → (moment : ℕ) → ℕ
last_writer beat moment = (moment - (beat.offset + beat.deadline)) / beat.period

-- where a hop to a reader leads: the write of its first job that reads at or after a moment
abbrev pub hop_to : Beat → (moment : ℕ) → ℕ
hop_to reader moment = write_at reader (first_reader reader moment)

-- the job of the group of a place in the forward chain from a first job
abbrev pub forward_job : List Beat → (first place : ℕ) → ℕ
forward_job beats first zero = first
forward_job beats first (suc place) = first_reader (beat_in beats (suc place)) (write_at (beat_in beats place) (forward_job beats first place))

-- when it writes
abbrev pub forward_write : List Beat → (first place : ℕ) → ℕ
forward_write beats first place = write_at (beat_in beats place) (forward_job beats first place)

-- the moments from which and to which the chain lasts, and its reaction
abbrev pub forward_start : List Beat → (first : ℕ) → ℕ
forward_start beats first = read_at (beat_in beats 0) (first - 1)

abbrev pub forward_end : List Beat → (first : ℕ) → ℕ
forward_end beats first = forward_write beats first (length beats - 1)

abbrev pub reaction_of : List Beat → (first : ℕ) → ℕ
reaction_of beats first = forward_end beats first - forward_start beats first
