-- How much of a core its tasks take, in millionths of time.
use Rattle.std.specs.Prelude.{ℕ, ◌*◌, ◌/◌, ◌==◌, List, filter, sum_by}
use Rattle.std.specs.Int.{div_ceil}
use Rattle.cl_model.specs.declared.stimulus.StimulusKind.{StimulusKind, TheVariants.{Periodic, Sporadic, Burst}}
use Rattle.cl_runs.specs.{TaskTiming.{Timing, System}, ExecutionTimes.greatest_execution}

abbrev pub MILLION : ℕ
MILLION = 1000000

-- how many jobs of a stimulus come in its round at most
abbrev pub jobs_of_round : StimulusKind → ℕ
jobs_of_round (Periodic period offset jitter) = 1
jobs_of_round (Sporadic least greatest) = 1
jobs_of_round (Burst period offset count distance) = count

-- the round: a period, or the least distance of two jobs
abbrev pub ticks_of_round : StimulusKind → ℕ
ticks_of_round (Periodic period offset jitter) = period
ticks_of_round (Sporadic least greatest) = least
ticks_of_round (Burst period offset count distance) = period

-- the millionths of time that the greatest times of a task take, not yet divided by its round
abbrev pub load_of_round : Timing → ℕ
load_of_round task = jobs_of_round task.pattern * greatest_execution task * MILLION

-- rounded up, and rounded down
abbrev pub load_up : Timing → ℕ
load_up task = div_ceil (load_of_round task) (ticks_of_round task.pattern)

abbrev pub load_down : Timing → ℕ
load_down task = load_of_round task / ticks_of_round task.pattern

abbrev pub core_tasks : System → (core : ℕ) → List Timing
core_tasks system core = filter (λ (task : Timing). task.core == core) system.tasks

-- the load of a core: no less than what its tasks take
unfoldable pub core_load : System → (core : ℕ) → ℕ
core_load system core = sum_by load_up (core_tasks system core)

-- the same, and no more than what they take
unfoldable pub sure_load : System → (core : ℕ) → ℕ
sure_load system core = sum_by load_down (core_tasks system core)
