-- Delays as reactions to events. An event comes with each job of the first group: it takes the number of the job, reads as
-- the job arrives, and stands for the job before it; the job itself takes the next number. So a reaction to it counts from
-- the arrival, and job 0 has one too.
use Rattle.std.specs.Prelude.{◌≡◌, ℕ, Option, None, ◌+◌, ◌<◌, List, ◌∷◌, length, slice_set}
use Rattle.cl_model.specs.declared.group.Group.{Group}
use Rattle.cl_runs.specs.{TaskTiming.System, Table.job_at, Run.{Run, jobs_of}, Chains.{JobChain, first_group, first_job}}
use Rattle.cl_chain.specs.{declared.group_moments.GroupMoments.GroupMoments, Inner.{GroupTables.{AreMomentsAt, AreTables, writes_in}, ChainsOver.IsForwardOver}}

-- a job of a task arrives at a moment
pub record JobArrives (run : Run) (task job moment : ℕ) : Type 0 where
  pub in_table : job < length (jobs_of run task)
  pub at_arrival : moment ≡ (job_at (jobs_of run task) job).arrival

-- when the events of a group read, and its jobs write
abbrev pub with_events : (arrivals writes : List (Option ℕ)) → GroupMoments
with_events arrivals writes = record { reads = arrivals; writes = None ∷ writes }

-- the moments at which groups read and write in a run, with an event before each job of the first
pub record AreEventTables (system : System) (run : Run) (groups : List Group) (tables : List GroupMoments) : Type 0 where
  pub plain : List GroupMoments
  pub are_tables : AreTables system run groups plain
  pub arrivals : List (Option ℕ)
  pub arrive : AreMomentsAt (JobArrives run (first_group groups).task) arrivals
  pub is : tables ≡ slice_set plain 0 (with_events arrivals (writes_in plain 0))

-- a chain of a run as one over such moments: its first job takes the next number
abbrev pub after_event : JobChain → JobChain
after_event chain = record { from = chain.from; to = chain.to; jobs = slice_set chain.jobs 0 (first_job chain + 1) }

-- a chain that is complete over such moments
abbrev pub IsDelayOver : List GroupMoments → JobChain → Type 0
IsDelayOver tables chain = IsForwardOver tables (after_event chain)
