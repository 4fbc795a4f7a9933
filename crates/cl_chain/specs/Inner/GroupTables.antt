-- When the jobs of groups read and write, as lists.
use Rattle.std.specs.Prelude.{◌≡◌, ℕ, Option, Some, None, ◌+◌, ◌<◌, ◌≤◌, List, [], length, slice_index_or}
use Rattle.cl_model.specs.{declared.group.Group.Group, Groups.group_at}
use Rattle.cl_runs.specs.{declared.job.Job.Job, Table.job_at, TaskTiming.System, Run.Run, Moments.{Reads, Writes}}
use Rattle.cl_check.specs.JobMoments.{IsMomentOf}
use Rattle.cl_chain.specs.declared.group_moments.GroupMoments.{GroupMoments}

-- the moment of a job, if it has one
abbrev pub moment_at : List (Option ℕ) → (job : ℕ) → Option ℕ
moment_at moments job = slice_index_or moments job None

-- the moments at which something is so of each job: all of them, and nothing else
pub record AreMomentsAt (IsAt : (job moment : ℕ) → Type 0) (moments : List (Option ℕ)) : Type 0 where
  pub sound : (job t : ℕ) → moment_at moments job ≡ Some t → IsAt job t
  pub complete : (job t : ℕ) → IsAt job t → moment_at moments job ≡ Some t

-- no moment lies before that of an earlier job
pub record NeverFall (moments : List (Option ℕ)) : Type 0 where
  pub in_order : (job later s t : ℕ) → job < later → moment_at moments job ≡ Some s → moment_at moments later ≡ Some t → s ≤ t

-- a job has finished by a moment
abbrev pub HasFinishedBy : (finish : Option ℕ) → (moment : ℕ) → Type 0
HasFinishedBy None moment = ⊥
HasFinishedBy (Some finish) moment = finish ≤ moment

-- a job that finishes then or not at all writes at its deadline
pub record IsTimedWrite (job : Job) (deadline ticks : ℕ) (finish : Option ℕ) (moment : ℕ) : Type 0 where
  pub at_deadline : moment ≡ job.arrival + deadline
  pub by_end : moment ≤ ticks
  pub in_time : HasFinishedBy finish moment

-- those of all jobs
pub record AreTimedWrites (jobs : List Job) (deadline ticks : ℕ) (finishes writes : List (Option ℕ)) : Type 0 where
  pub one_a_job : length writes ≡ length jobs
  pub each : (job : ℕ) → job < length writes
      → IsMomentOf (IsTimedWrite (job_at jobs job) deadline ticks (moment_at finishes job)) (moment_at writes job)

-- what stands past the last group
unfoldable pub no_table : GroupMoments
no_table = record { reads = []; writes = [] }

-- the moments of the group of a number
abbrev pub reads_in : List GroupMoments → (group : ℕ) → List (Option ℕ)
reads_in tables i = (slice_index_or tables i no_table).reads

abbrev pub writes_in : List GroupMoments → (group : ℕ) → List (Option ℕ)
writes_in tables i = (slice_index_or tables i no_table).writes

-- the moments at which groups read and write in a run
pub record AreTables (system : System) (run : Run) (groups : List Group) (tables : List GroupMoments) : Type 0 where
  pub one_a_group : length tables ≡ length groups
  pub reads : (i : ℕ) → i < length tables
      → AreMomentsAt (λ job t. Reads system run (group_at groups i).task job (group_at groups i).first t) (reads_in tables i)
  pub writes : (i : ℕ) → i < length tables
      → AreMomentsAt (λ job t. Writes system run (group_at groups i).task job (group_at groups i).last t) (writes_in tables i)
