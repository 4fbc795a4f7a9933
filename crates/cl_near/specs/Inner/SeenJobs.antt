-- What is seen of jobs that arrive and finish at some moments. Times are in ticks.
use Rattle.std.specs.Prelude.{◌≡◌, ℕ, Option, Some, None, ◌+◌, ◌-◌, ◌<◌, ◌≤◌, List, length, slice_index_or}
use Rattle.cl_runs.specs.{declared.job.Job.Job, Table.job_at}
use Rattle.cl_near.specs.declared.task_seen.SeenOfTask.{SeenOfTask, TheVariants.{Missed, Response}}

-- a job that is to have finished by a moment, in a run that lasts until then, hasn't
abbrev pub IsMissed : (due ticks : ℕ) → (finish : Option ℕ) → Type 0
IsMissed due ticks None = due ≤ ticks
IsMissed due ticks (Some finish) = due < finish

-- a job that arrives at a moment has finished so many ticks after it
pub record HasTaken (arrival : ℕ) (found : Option ℕ) (ticks : ℕ) : Type 0 where
  pub finish : ℕ
  pub found_is : found ≡ Some finish
  pub ticks_are : finish - arrival ≡ ticks

-- one of some jobs has missed its deadline
pub record HasMissed (jobs : List Job) (finishes : List (Option ℕ)) (deadline ticks : ℕ) : Type 0 where
  pub job : ℕ
  pub in_table : job < length jobs
  pub missed : IsMissed ((job_at jobs job).arrival + deadline) ticks (slice_index_or finishes job None)

-- one of some jobs has taken so many ticks
pub record HasJobTaken (jobs : List Job) (finishes : List (Option ℕ)) (ticks : ℕ) : Type 0 where
  pub job : ℕ
  pub in_table : job < length jobs
  pub taken : HasTaken (job_at jobs job).arrival (slice_index_or finishes job None) ticks

-- what is seen of some jobs
pub record IsSeenOfJobs (jobs : List Job) (finishes : List (Option ℕ)) (deadline ticks : ℕ) (seen : SeenOfTask) : Type 0 where
  pub missed : seen ≡ Missed → HasMissed jobs finishes deadline ticks
  pub response : (response : ℕ) → seen ≡ Response response → HasJobTaken jobs finishes response
