-- What jobs have by a list of their finishes, one entry for each.
use Rattle.std.specs.Prelude.{◌≡◌, ℕ, ℤ, pos, ◌-ℤ◌, ◌+◌, ◌-◌, ◌<◌, Bool, true, ◌&&◌, nat_le, nat_lt, List, length, slice_index, slice_index_or, Option, Some, None}
use Rattle.cl_runs.specs.{declared.job.Job.Job, Run.Run, TaskTiming.{System, timing_at}, Table.job_at}
use Rattle.cl_check.specs.{declared.job_ends.End.TheVariants.Finish, JobMoments.AreEndsOfJobs}

-- when the jobs of a task finish: its last runnable does
abbrev pub AreFinishTimes : System → Run → (task : ℕ) → List (Option ℕ) → Type 0
AreFinishTimes system run task finishes = AreEndsOfJobs Finish system run task (length (timing_at system task).ranges - 1) finishes

-- when a job finishes
abbrev pub finish_at : List (Option ℕ) → (job : ℕ) → Option ℕ
finish_at finishes job = slice_index_or finishes job None

-- whether a job that is to finish by a moment, in a run that lasts until then, hasn't
abbrev pub is_unfinished : (due ticks : ℕ) → (finish : Option ℕ) → Bool
is_unfinished due ticks None = nat_le due ticks
is_unfinished due ticks (Some finish) = nat_le due ticks && nat_lt due finish

abbrev pub IsJobUnfinished : List Job → List (Option ℕ) → (deadline ticks : ℕ) → (job : ℕ) → Type 0
IsJobUnfinished jobs finishes deadline ticks job = is_unfinished ((job_at jobs job).arrival + deadline) ticks (finish_at finishes job) ≡ true

-- a job has a response
pub record HasListedResponse (jobs : List Job) (finishes : List (Option ℕ)) (job : ℕ) (response : ℤ) : Type 0 where
  pub finish : ℕ
  pub finishes_then : finish_at finishes job ≡ Some finish
  pub response_is : response ≡ pos finish -ℤ pos (job_at jobs job).arrival

-- it has a jitter
pub record HasListedJitter (jobs : List Job) (job : ℕ) (jitter : ℤ) : Type 0 where
  pub in_table : job < length jobs
  pub jitter_is : jitter ≡ pos (job_at jobs job).release -ℤ pos (job_at jobs job).arrival

-- it has a time of a runnable, which has finished
pub record HasListedTime (jobs : List Job) (finishes : List (Option ℕ)) (place job : ℕ) (time : ℤ) : Type 0 where
  pub finish : ℕ
  pub finishes_then : finish_at finishes job ≡ Some finish
  pub time_is : time ≡ pos (slice_index (job_at jobs job).times place)

-- a job below a number has something
pub record HasBelow (n : ℕ) (Has : (job : ℕ) → (number : ℤ) → Type 0) (job : ℕ) (number : ℤ) : Type 0 where
  pub below : job < n
  pub has : Has job number
