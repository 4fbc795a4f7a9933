-- Runs in order: each job takes time, and the jobs of a task arrive one after the other. Such a run need not be legal.
use Rattle.std.specs.Prelude.{ℕ, ◌<◌, ◌≤◌, List, length, All}
use Rattle.cl_model.specs.{declared.group.Group.Group, Groups.group_at}
use Rattle.cl_runs.specs.{declared.job.Job.Job, Table.job_at, TaskTiming.System, Run.{Run, jobs_of}}

-- each execution time of some jobs is 1 tick or more
abbrev pub AreTimesPositive : List Job → Type 0
AreTimesPositive jobs = All (λ (job : Job). All (λ (time : ℕ). 1 ≤ time) job.times) jobs

-- each job arrives before each later one
abbrev pub DoArrivalsRise : List Job → Type 0
DoArrivalsRise jobs = (k l : ℕ) → k < l → l < length jobs → (job_at jobs k).arrival < (job_at jobs l).arrival

-- the jobs of a task are in order: each time is 1 tick or more, and the arrivals rise strictly
pub record AreJobsInOrder (jobs : List Job) : Type 0 where
  pub times : AreTimesPositive jobs
  pub arrivals : DoArrivalsRise jobs

-- a run is in order where the jobs of each task are
abbrev pub IsRunInOrder : System → Run → Type 0
IsRunInOrder system run = (task : ℕ) → task < length system.tasks → AreJobsInOrder (jobs_of run task)

-- the jobs of the tasks of some groups are in order
abbrev pub AreGroupsInOrder : List Group → Run → Type 0
AreGroupsInOrder groups run = (place : ℕ) → place < length groups → AreJobsInOrder (jobs_of run (group_at groups place).task)
