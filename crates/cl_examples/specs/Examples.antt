-- Small systems, tables and runs that show what the definitions say.
use Rattle.std.specs.Prelude.{ℕ, false, Option, Some, None, List, [], ◌∷◌, ◌++◌, replicate}
use Rattle.cl_model.specs.{declared.{stimulus.StimulusKind.TheVariants.{Periodic, Sporadic}, task.AccessKind.TheVariants.Implicit, group.Group.Group}, Groups.groups}
use Rattle.cl_runs.specs.{declared.job.{Job.Job, JobTable.JobTable}, TaskTiming.{Timing, System}, Run.Run, Chains.{Moments, JobChain}, RunChains.run_moments, Measured.Measured}

-- a job that is released as it arrives, with its execution time of one runnable
abbrev pub prompt_job : ℕ → ℕ → Job
prompt_job arrival time = record { arrival = arrival; release = arrival; times = time ∷ [] }

-- ---- a sporadic task

-- a sporadic task with gaps from 5 to 8, of one runnable of one tick
abbrev pub sporadic_task : Timing
sporadic_task = record {
  core = 0;
  priority = 1;
  deadline = 5;
  pattern = Sporadic 5 8;
  access = Implicit;
  ranges = record { least = 1; greatest = 1; whole = false } ∷ [];
}

-- arrivals at 0 and 8
abbrev pub two_jobs : List Job
two_jobs = prompt_job 0 1 ∷ prompt_job 8 1 ∷ []

-- ---- tasks A and B on two cores, and a run of them

-- task A: a job of 3 ticks each 10 ticks, on core 0
abbrev pub task_a : Timing
task_a = record {
  core = 0;
  priority = 2;
  deadline = 10;
  pattern = Periodic 10 0 0;
  access = Implicit;
  ranges = record { least = 3; greatest = 3; whole = false } ∷ [];
}

-- task B: a job of 5 ticks each 20 ticks from 12 on, on core 1
abbrev pub task_b : Timing
task_b = record {
  core = 1;
  priority = 1;
  deadline = 20;
  pattern = Periodic 20 12 0;
  access = Implicit;
  ranges = record { least = 5; greatest = 5; whole = false } ∷ [];
}

-- A has the number 0, and B the number 1
unfoldable pub two_tasks : System
two_tasks = record { cores = 2; tasks = task_a ∷ task_b ∷ [] }

abbrev pub jobs_of_a : List Job
jobs_of_a = prompt_job 0 3 ∷ prompt_job 10 3 ∷ prompt_job 20 3 ∷ prompt_job 30 3 ∷ []

abbrev pub jobs_of_b : List Job
jobs_of_b = prompt_job 12 5 ∷ prompt_job 32 5 ∷ []

-- a table for 37 ticks with these jobs of B
abbrev pub table_with : List Job → JobTable
table_with jobs = record { ticks = 37; jobs = jobs_of_a ∷ jobs ∷ [] }

-- so many ticks of a task, and so many idle ones
abbrev pub ran : ℕ → ℕ → List (Option ℕ)
ran i ticks = replicate ticks (Some i)

abbrev pub idle : ℕ → List (Option ℕ)
idle ticks = replicate ticks None

-- the run: each job runs as it is released
unfoldable pub two_tasks_run : Run
two_tasks_run = record {
  table = table_with jobs_of_b;
  entries =
      (ran 0 3 ++ idle 7 ++ ran 0 3 ++ idle 7 ++ ran 0 3 ++ idle 7 ++ ran 0 3 ++ idle 4)
      ∷ (idle 12 ++ ran 1 5 ++ idle 15 ++ ran 1 5)
      ∷ [];
}

-- its moments
abbrev pub two_tasks_moments : Moments
two_tasks_moments = run_moments two_tasks two_tasks_run

-- the groups of the chain from A's runnable to B's
abbrev pub from_a_to_b : List Group
from_a_to_b = groups (record { task = 0; place = 0 } ∷ record { task = 1; place = 0 } ∷ [])

-- job m of A and job k of B, with the ends of the chain
abbrev pub two_job_chain : (m k from to : ℕ) → JobChain
two_job_chain m k from to = record { from = from; to = to; jobs = m ∷ k ∷ [] }

-- what is measured in the run: a greatest reaction of 37, a greatest age of 37 and a greatest reduced age of 17
abbrev pub two_tasks_measured : Measured
two_tasks_measured = record {
  reaction = Some (two_job_chain 1 1 0 37);
  age = Some (two_job_chain 0 0 0 37);
  reduced = Some (two_job_chain 0 0 0 17);
  forward = 2;
  backward = 1;
}
