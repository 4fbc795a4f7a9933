-- Where a task stands in the work of its jobs, and what of it is known by then. Times are in ticks.
use Rattle.std.specs.Prelude.{◌≡◌, ℕ, suc, Some, ◌+◌, ◌<◌, ◌≤◌, List, length, slice_index}
use Rattle.cl_runs.specs.{declared.job.Job.Job, Table.job_at, TaskTiming.{System, timing_at}, Run.{Run, jobs_of, entry_at, executed}, Work.work_before, Moments.JobFinishes}
use Rattle.cl_draw.specs.{declared.{cursor.Cursor.Cursor, parts.{Part.Part, Work.Work}}, Parts.{due_in, part_at, IsPart, IsFollowedBy, HasPartAt}}

-- how long a runnable of a job takes: 0 where there is none
abbrev pub time_at : List Job → (job place : ℕ) → ℕ
time_at jobs job place = slice_index (job_at jobs job).times place

-- a task stands in a runnable of a job that still takes so long, or behind its last job
pub record StandsAt (system : System) (run : Run) (task : ℕ) (cursor : Cursor) (tick : ℕ) : Type 0 where
  pub work : executed system run task tick + cursor.left
      ≡ work_before (jobs_of run task) cursor.job cursor.place + time_at (jobs_of run task) cursor.job cursor.place
  pub begun : cursor.left ≤ time_at (jobs_of run task) cursor.job cursor.place
  pub going : cursor.job < length (jobs_of run task) → (cursor.place < length (timing_at system task).ranges) × (0 < cursor.left)
  pub over : length (jobs_of run task) ≤ cursor.job → cursor.left ≡ 0
  pub within : cursor.job ≤ length (jobs_of run task)

-- the job of a cursor finishes with the ticks up to the next cursor
pub record FinishesJob (system : System) (task : ℕ) (cursor : Cursor) (ticks : ℕ) (next : Cursor) : Type 0 where
  pub next_job : next.job ≡ cursor.job + 1
  pub whole : cursor.left ≡ ticks
  pub last : cursor.place + 1 ≡ length (timing_at system task).ranges

-- the parts below a tick
pub record ArePartsBelow (system : System) (run : Run) (task : ℕ) (parts : List Part) (tick : ℕ) : Type 0 where
  pub each : (k : ℕ) → k < length parts → IsPart system run task (part_at parts k)
  pub by : (k : ℕ) → k < length parts → (part_at parts k).to ≤ tick
  pub in_order : (k : ℕ) → suc k < length parts → IsFollowedBy system run task (part_at parts k) (part_at parts (suc k))
  pub all : (t : ℕ) → t < tick → entry_at run (timing_at system task).core t ≡ Some task → HasPartAt parts t

-- what a task executes below a tick, and when the jobs before the cursor's finish
pub record IsWorkAt (system : System) (run : Run) (task : ℕ) (work : Work) (cursor : Cursor) (tick : ℕ) : Type 0 where
  pub stands : StandsAt system run task cursor tick
  pub parts : ArePartsBelow system run task work.parts tick
  pub finished : length work.finishes ≡ cursor.job
  pub finishes : (job : ℕ) → job < cursor.job → JobFinishes system run task job (slice_index work.finishes job)

-- where the last part ends at a tick, the runnable that goes on there is another one, or its job is due then
pub record IsCutAt (system : System) (run : Run) (task : ℕ) (parts : List Part) (cursor : Cursor) (tick : ℕ) : Type 0 where
  pub cut : (k : ℕ) → suc k ≡ length parts → (part_at parts k).to ≡ tick → (part_at parts k).job ≡ cursor.job → (part_at parts k).place ≡ cursor.place
      → tick ≡ due_in system run task cursor.job

-- the task runs in each tick from one to another
abbrev pub RunsFrom : System → Run → (task from to : ℕ) → Type 0
RunsFrom system run task from to = (tick : ℕ) → from ≤ tick → tick < to → entry_at run (timing_at system task).core tick ≡ Some task

-- one part further, up to a tick
pub record IsFurther (system : System) (run : Run) (task : ℕ) (from end : ℕ) (work : Work) (cursor : Cursor) (to : ℕ) : Type 0 where
  pub after : from < to
  pub by : to ≤ end
  pub at_end : IsWorkAt system run task work cursor to
  pub cut : to < end → IsCutAt system run task work.parts cursor to
