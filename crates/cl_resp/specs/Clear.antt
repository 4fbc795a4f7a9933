-- Clear moments of a task in a run, where the window of a job begins, and what a window of the run
-- holds.
use Rattle.std.specs.Prelude.{◌≡◌, ℕ, suc, ◌+◌, ◌*◌, ◌<◌, ◌≤◌, true, cond, nat_lt, List, length, take, drop, sum, sum_by}
use Rattle.cl_runs.specs.{TaskTiming.{TimeRange, Timing, System, timing_at}, declared.job.Job.Job, Table.job_at, Run.{Run, jobs_of, executed}, Moments.Finishes, Priorities.{is_above, tasks_above}, ExecutionTimes.greatest_execution}
use Rattle.cl_stim.specs.Releases.{releases_in}
use Rattle.cl_resp.specs.Question.{lower_block_of}

-- the total time of the jobs that are released before a moment
unfoldable pub released_before : List Job → (moment : ℕ) → ℕ
released_before jobs moment =
    sum_by (λ (job : Job). cond (nat_lt job.release moment) (sum job.times) 0) jobs

-- the total time of the first jobs of a task
abbrev pub work_of_first : Run → (task count : ℕ) → ℕ
work_of_first run task count =
    sum_by (λ (job : Job). sum job.times) (take count (jobs_of run task))

-- a moment is clear for a task: the tasks above it on its core have executed all that they released
-- before the moment
abbrev pub IsClear : System → Run → (task moment : ℕ) → Type 0
IsClear system run task moment = (other : ℕ) → other < length system.tasks
    → is_above (timing_at system task) (timing_at system other) ≡ true
    → released_before (jobs_of run other) moment ≤ executed system run other moment

-- the window of a job begins at the last clear moment up to its release, and the jobs before it are
-- done there
pub record IsBeginning (system : System) (run : Run) (task job start : ℕ) : Type 0 where
  pub in_table : job < length (jobs_of run task)
  pub by_release : start ≤ (job_at (jobs_of run task) job).release
  pub clear : IsClear system run task start
  pub last : (moment : ℕ) → moment ≤ (job_at (jobs_of run task) job).release
      → IsClear system run task moment → moment ≤ start
  pub done : work_of_first run task job ≤ executed system run task start

-- ---- what a window holds

-- the greatest execution time of a job of a task up to the end of a runnable
unfoldable pub greatest_through : Timing → (place : ℕ) → ℕ
greatest_through task place =
    sum_by (λ (range : TimeRange). range.greatest) (take (suc place) task.ranges)

-- and that of the runnables behind it
unfoldable pub greatest_behind : Timing → (place : ℕ) → ℕ
greatest_behind task place =
    sum_by (λ (range : TimeRange). range.greatest) (drop (suc place) task.ranges)

-- the greatest time of the jobs of a task that are released in the `width` ticks from `start` on
abbrev pub time_released : System → Run → (start width task : ℕ) → ℕ
time_released system run start width task =
    releases_in (jobs_of run task) start width * greatest_execution (timing_at system task)

-- that of the jobs of all tasks above a task on its core
unfoldable pub released_above : System → Run → (task start width : ℕ) → ℕ
released_above system run task start width =
    sum_by (time_released system run start width) (tasks_above system task)

-- the most ticks of a window that go to a runnable of a task below, to so much work of the task
-- itself, and to the jobs of the tasks above that are released in it
unfoldable pub needed : System → Run → (task own start width : ℕ) → ℕ
needed system run task own start width =
    lower_block_of system (timing_at system task) + own + released_above system run task start width

-- ---- what has come by its end

-- a runnable of a job finishes by a moment
pub record FinishesBy (system : System) (run : Run) (task job place latest : ℕ) : Type 0 where
  pub finish : ℕ
  pub by : finish ≤ latest
  pub finishes : Finishes system run task job place finish

-- by a moment, and after the release of a job, there is a clear one at which it and the jobs before
-- it are done
pub record IsDoneBy (system : System) (run : Run) (task job latest : ℕ) : Type 0 where
  pub at : ℕ
  pub after : (job_at (jobs_of run task) job).release < at
  pub by : at ≤ latest
  pub clear : IsClear system run task at
  pub done : work_of_first run task (suc job) ≤ executed system run task at
