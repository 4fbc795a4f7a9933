-- The jobs of one task in a table of some cores.
use Rattle.std.specs.Prelude.{◌≡◌, ℕ, Bool, true, false, List, []}
use Rattle.cl_runs.specs.{declared.job.Job.Job, TaskTiming.Timing, Table.AreLawfulJobs}
use Rattle.cl_run_data.specs.Parts.{is_among}

-- lawful jobs if the core of the task is among these, and none else
pub record AreWishedOf (task : Timing) (ticks : ℕ) (cores : List Bool) (jobs : List Job) : Type 0 where
  pub lawful : is_among cores task.core ≡ true → AreLawfulJobs task ticks jobs
  pub none : is_among cores task.core ≡ false → jobs ≡ []
