-- When the jobs of a task start and finish, as a list.
use Rattle.std.specs.Prelude.{◌≡◌, ℕ, Option, Some, None, ◌<◌, List, length, slice_index_or}
use Rattle.cl_runs.specs.{TaskTiming.System, Run.{Run, jobs_of}, Moments.{Starts, Finishes}}
use Rattle.cl_check.specs.declared.{job_moments.Moment.Moment, job_ends.End.{End, TheVariants.{Start, Finish}}}

-- the moment at which something is so, and none where there is no such moment
abbrev pub IsMomentOf : (IsAt : ℕ → Type 0) → Option ℕ → Type 0
IsMomentOf IsAt None = (t : ℕ) → IsAt t → ⊥
IsMomentOf IsAt (Some t) = IsAt t

-- what stands past the last moment
unfoldable pub no_moment : Moment
no_moment = record { start = None; finish = None }

-- when a runnable starts and finishes: one moment for each job of its task, in order
pub record AreMoments (system : System) (run : Run) (task place : ℕ) (moments : List Moment) : Type 0 where
  pub one_a_job : length moments ≡ length (jobs_of run task)
  pub starts : (job : ℕ) → job < length moments
      → IsMomentOf (Starts system run task job place) (slice_index_or moments job no_moment).start
  pub finishes : (job : ℕ) → job < length moments
      → IsMomentOf (Finishes system run task job place) (slice_index_or moments job no_moment).finish

-- a runnable of a job starts, or has finished, at a tick
abbrev pub EndsAt : End → System → Run → (task job place : ℕ) → (tick : ℕ) → Type 0
EndsAt Start system run task job place = Starts system run task job place
EndsAt Finish system run task job place = Finishes system run task job place

-- when a runnable starts, or finishes: an entry for each job of its task, in order
pub record AreEndsOfJobs (end : End) (system : System) (run : Run) (task place : ℕ) (ends : List (Option ℕ)) : Type 0 where
  pub one_a_job : length ends ≡ length (jobs_of run task)
  pub each : (job : ℕ) → job < length ends → IsMomentOf (EndsAt end system run task job place) (slice_index_or ends job None)
