-- When one run goes on from another.
use Rattle.std.specs.Prelude.{◌≡◌, ℕ, ◌<◌, ◌≤◌, length, take}
use Rattle.cl_runs.specs.{Table.job_at, Run.{Run, jobs_of, core_entries}}

-- the longer run goes on from the shorter: it has the same first jobs of each task, each further job arrives at the
-- end of the shorter run or later, and each core's entries of the shorter run are its first ones
pub record GoesOn (shorter longer : Run) : Type 0 where
  pub ticks : shorter.table.ticks ≤ longer.table.ticks
  pub first_jobs : (task : ℕ) → jobs_of shorter task ≡ take (length (jobs_of shorter task)) (jobs_of longer task)
  pub later_jobs : (task job : ℕ) → length (jobs_of shorter task) ≤ job → job < length (jobs_of longer task)
      → shorter.table.ticks ≤ (job_at (jobs_of longer task) job).arrival
  pub entries : (core : ℕ) → core_entries shorter core ≡ take shorter.table.ticks (core_entries longer core)
