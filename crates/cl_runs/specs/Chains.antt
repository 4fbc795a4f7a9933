-- Job chains over any read and write moments of groups.
use Rattle.std.specs.Prelude.{◌≡◌, ℕ, suc, ◌+◌, ◌-◌, ◌<◌, ◌≤◌, List, length, slice_index}
use Rattle.cl_model.specs.{declared.group.Group.Group, Groups.group_at}

-- at which ticks the jobs of groups read and write: `reads group job tick`, and so for writes
pub record Moments : Type 1 where
  pub reads : Group → (job tick : ℕ) → Type 0
  pub writes : Group → (job tick : ℕ) → Type 0

-- a job of the group has a write
pub record HasWritten (moments : Moments) (group : Group) (job : ℕ) : Type 0 where
  pub write : ℕ
  pub writes : moments.writes group job write

-- the earliest reader of a writing job: the least job of the reader's group whose read is at or after the write
pub record IsEarliestReader (moments : Moments) (writer reader : Group) (writing reading : ℕ) : Type 0 where
  pub write : ℕ
  pub read : ℕ
  pub writes : moments.writes writer writing write
  pub reads : moments.reads reader reading read
  pub after : write ≤ read
  pub least : (other r : ℕ) → moments.reads reader other r → write ≤ r → reading ≤ other

-- the latest writer for a reading job: the greatest job of the writer's group whose write is at or before the read
pub record IsLatestWriter (moments : Moments) (writer reader : Group) (writing reading : ℕ) : Type 0 where
  pub write : ℕ
  pub read : ℕ
  pub writes : moments.writes writer writing write
  pub reads : moments.reads reader reading read
  pub before : write ≤ read
  pub greatest : (other w : ℕ) → moments.writes writer other w → w ≤ read → other ≤ writing

-- a job chain: one job number per group, and the moments from which and to which it lasts
pub record JobChain : Type 0 where
  pub from : ℕ
  pub to : ℕ
  pub jobs : List ℕ

-- how long a job chain lasts
abbrev pub chain_length : JobChain → ℕ
chain_length chain = chain.to - chain.from

abbrev pub first_group : List Group → Group
first_group groups = group_at groups 0

abbrev pub last_group : List Group → Group
last_group groups = group_at groups (length groups - 1)

abbrev pub first_job : JobChain → ℕ
first_job chain = slice_index chain.jobs 0

abbrev pub last_job : JobChain → ℕ
last_job chain = slice_index chain.jobs (length chain.jobs - 1)

-- a complete forward chain: each job has number 1 or more and has written, and each after the first is the earliest
-- reader of the one before it. It lasts from the read of the job before the first to the write of the last:
-- its length is its reaction
pub record IsForwardChain (moments : Moments) (groups : List Group) (chain : JobChain) : Type 0 where
  pub some_group : 0 < length groups
  pub one_a_group : length chain.jobs ≡ length groups
  pub not_first : (i : ℕ) → i < length groups → 1 ≤ slice_index chain.jobs i
  pub written : (i : ℕ) → i < length groups → HasWritten moments (group_at groups i) (slice_index chain.jobs i)
  pub linked : (i : ℕ) → suc i < length groups
      → IsEarliestReader moments (group_at groups i) (group_at groups (suc i)) (slice_index chain.jobs i) (slice_index chain.jobs (suc i))
  pub from : moments.reads (first_group groups) (first_job chain - 1) chain.from
  pub to : moments.writes (last_group groups) (last_job chain) chain.to

-- each job before the last is the latest writer for the one after it, and the last one and the job after it have
-- written
pub record AreBackwardLinks (moments : Moments) (groups : List Group) (jobs : List ℕ) : Type 0 where
  pub some_group : 0 < length groups
  pub one_a_group : length jobs ≡ length groups
  pub linked : (i : ℕ) → suc i < length groups
      → IsLatestWriter moments (group_at groups i) (group_at groups (suc i)) (slice_index jobs i) (slice_index jobs (suc i))
  pub last_written : HasWritten moments (last_group groups) (slice_index jobs (length jobs - 1))
  pub next_written : HasWritten moments (last_group groups) (slice_index jobs (length jobs - 1) + 1)

-- a complete backward chain, from its first read to the write of the job after the last: its length is its age
pub record IsAgeChain (moments : Moments) (groups : List Group) (chain : JobChain) : Type 0 where
  pub links : AreBackwardLinks moments groups chain.jobs
  pub from : moments.reads (first_group groups) (first_job chain) chain.from
  pub to : moments.writes (last_group groups) (last_job chain + 1) chain.to

-- a complete backward chain, from its first read to the write of the last: its length is its reduced age
pub record IsReducedChain (moments : Moments) (groups : List Group) (chain : JobChain) : Type 0 where
  pub links : AreBackwardLinks moments groups chain.jobs
  pub from : moments.reads (first_group groups) (first_job chain) chain.from
  pub to : moments.writes (last_group groups) (last_job chain) chain.to
