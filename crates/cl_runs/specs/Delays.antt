-- Chains from the arrival of their first job: how long it takes an event that comes with the job that reads it.
use Rattle.std.specs.Prelude.{◌≡◌, ℕ, suc, ◌<◌, ◌≤◌, List, length, slice_index}
use Rattle.cl_model.specs.{declared.group.Group.Group, Groups.group_at}
use Rattle.cl_runs.specs.{TaskTiming.System, Table.job_at, Run.{Run, jobs_of}, Chains.{HasWritten, IsEarliestReader, JobChain, first_group, last_group, first_job, last_job}, RunChains.run_moments}

-- a chain of a run that takes an event on: each job has written, and each after the first has number 1 or more and is the
-- earliest reader of the one before it; the first may be job 0. It lasts from the arrival of the first to the write of
-- the last: its length is its delay
pub record IsDelayChain (system : System) (run : Run) (groups : List Group) (chain : JobChain) : Type 0 where
  pub some_group : 0 < length groups
  pub one_a_group : length chain.jobs ≡ length groups
  pub not_first : (i : ℕ) → suc i < length groups → 1 ≤ slice_index chain.jobs (suc i)
  pub written : (i : ℕ) → i < length groups → HasWritten (run_moments system run) (group_at groups i) (slice_index chain.jobs i)
  pub linked : (i : ℕ) → suc i < length groups
      → IsEarliestReader (run_moments system run) (group_at groups i) (group_at groups (suc i)) (slice_index chain.jobs i) (slice_index chain.jobs (suc i))
  pub from : chain.from ≡ (job_at (jobs_of run (first_group groups).task) (first_job chain)).arrival
  pub to : (run_moments system run).writes (last_group groups) (last_job chain) chain.to
