-- What the theory of runs needs to know of a model: a number of cores, and the timing of each task.
use Rattle.std.specs.Prelude.{◌≡◌, ℕ, Bool, false, ◌<◌, ◌≤◌, List, [], length, slice_index_or, All}
use Rattle.cl_model.specs.{declared.{stimulus.StimulusKind.{StimulusKind, TheVariants.Periodic}, task.AccessKind.{AccessKind, TheVariants.Timed}}, Timing.{least_distance, greatest_jitter}}
use Rattle.cl_runs.specs.Pattern.{IsPattern}

-- a job's execution time of a runnable lies in [least, greatest]; a whole runnable isn't interrupted
pub record TimeRange : Type 0 where
  pub least : ℕ
  pub greatest : ℕ
  pub whole : Bool

-- a task: its core, its priority (a greater number is higher), its deadline from arrival, its arrival pattern,
-- how it accesses labels, and the ranges of its runnables in the order in which a job executes them
pub record Timing : Type 0 where
  pub core : ℕ
  pub priority : ℕ
  pub deadline : ℕ
  pub pattern : StimulusKind
  pub access : AccessKind
  pub ranges : List TimeRange

pub record System : Type 0 where
  pub cores : ℕ
  pub tasks : List Timing

-- what stands past the last task
unfoldable pub no_timing : Timing
no_timing = record { core = 0; priority = 0; deadline = 0; pattern = Periodic 0 0 0; access = Timed; ranges = [] }

-- the task of a number
abbrev pub timing_at : System → (task : ℕ) → Timing
timing_at system task = slice_index_or system.tasks task no_timing

-- what stands past the last runnable
unfoldable pub no_range : TimeRange
no_range = record { least = 0; greatest = 0; whole = false }

-- the range of a task's runnable
abbrev pub range_at : Timing → (place : ℕ) → TimeRange
range_at task place = slice_index_or task.ranges place no_range

-- what each task of a valid model is known to have: a core of the model, at least one runnable, times of at least
-- one tick, a well-formed arrival pattern, and a deadline above the jitter and within the least distance
pub record IsSoundTask (cores : ℕ) (task : Timing) : Type 0 where
  pub on_core : task.core < cores
  pub some_runnable : 0 < length task.ranges
  pub times : All (λ (range : TimeRange). (1 ≤ range.least) × (range.least ≤ range.greatest)) task.ranges
  pub pattern : IsPattern task.pattern
  pub above_jitter : greatest_jitter task.pattern < task.deadline
  pub within_distance : task.deadline ≤ least_distance task.pattern

-- what a valid model is known to have: sound tasks, and no two tasks of one core with one priority
pub record IsSound (system : System) : Type 0 where
  pub tasks : (i : ℕ) → i < length system.tasks → IsSoundTask system.cores (timing_at system i)
  pub distinct : (i j : ℕ) → i < length system.tasks → j < length system.tasks
      → (timing_at system i).core ≡ (timing_at system j).core → (timing_at system i).priority ≡ (timing_at system j).priority → i ≡ j
