-- Where a walk over the stretches of a core stands, and what it finds.
use Rattle.std.specs.Prelude.{◌≡◌, ℕ, suc, ◌+◌, ◌-◌, ◌^◌, Option, Some, None, ◌<◌, ◌≤◌, min, List, length, take, count_by, slice_index_or}
use Rattle.cl_runs.specs.{declared.job.Job.Job, Run.is_task, Work.{work_before, work_through}}
use Rattle.cl_run_data.specs.{declared.stretches.Stretch.Stretch, Stretches.entries_from}
use Rattle.cl_check.specs.{declared.{job_moments.Moment.Moment, job_ends.End.{End, TheVariants.{Start, Finish}}, walk.Walk.Walk}, JobMoments.{IsMomentOf, no_moment}}

-- in how many ticks below a moment a task runs
abbrev pub executed_in : List (Option ℕ) → (task moment : ℕ) → ℕ
executed_in entries task moment = count_by (is_task task) (take moment entries)

-- a task runs in a tick, after so many executed ticks
pub record RunsAfter (entries : List (Option ℕ)) (task work tick : ℕ) : Type 0 where
  pub within : tick < length entries
  pub reached : executed_in entries task tick ≡ work
  pub runs : slice_index_or entries tick None ≡ Some task

-- a moment is the end of such a tick
pub record EndsAfter (entries : List (Option ℕ)) (task work moment : ℕ) : Type 0 where
  pub tick : ℕ
  pub ends : suc tick ≡ moment
  pub runs : RunsAfter entries task work tick

-- a walk stands at the start of one of the stretches, or at their end
pub record StandsIn (stretches : List Stretch) (task : ℕ) (walk : Walk) : Type 0 where
  pub within : walk.place ≤ length stretches
  pub first : walk.place ≡ 0 → walk.start ≡ 0
  pub next : (before : ℕ) (d : Stretch) → suc before ≡ walk.place → walk.start ≡ (slice_index_or stretches before d).end
  pub reached : walk.executed ≡ executed_in (entries_from 0 stretches) task walk.start

-- the moments of a runnable over the entries of a core, job by job, by the work before it and up to it
pub record AreMomentsIn (entries : List (Option ℕ)) (jobs : List Job) (task place : ℕ) (moments : List Moment) : Type 0 where
  pub starts : (job : ℕ) → job < length moments
      → IsMomentOf (RunsAfter entries task (work_before jobs job place)) (slice_index_or moments job no_moment).start
  pub finishes : (job : ℕ) → job < length moments
      → IsMomentOf (EndsAfter entries task (work_through jobs job place - 1)) (slice_index_or moments job no_moment).finish

-- one end of a runnable that takes `own` ticks, after so much work of its task, as far as it fits
abbrev pub IsEndAfter : End → List (Option ℕ) → (task before own : ℕ) → (tick : ℕ) → Type 0
IsEndAfter Start entries task before own = RunsAfter entries task before
IsEndAfter Finish entries task before own = EndsAfter entries task (min (before + (own - 1)) (2 ^ 64 - 1))

-- one end of a runnable of a job, by the work before it or up to it
abbrev pub EndsIn : End → List (Option ℕ) → List Job → (task job place : ℕ) → (tick : ℕ) → Type 0
EndsIn Start entries jobs task job place = RunsAfter entries task (work_before jobs job place)
EndsIn Finish entries jobs task job place = EndsAfter entries task (work_through jobs job place - 1)

-- one end of a runnable over the entries of a core, job by job
pub record AreEndsIn (end : End) (entries : List (Option ℕ)) (jobs : List Job) (task place : ℕ) (ends : List (Option ℕ)) : Type 0 where
  pub each : (job : ℕ) → job < length ends → IsMomentOf (EndsIn end entries jobs task job place) (slice_index_or ends job None)
