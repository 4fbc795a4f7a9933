-- Hops from group to group, over lists of moments.
use Rattle.std.specs.Prelude.{◌≡◌, ℕ, Option, Some, ◌+◌, ◌<◌, ◌≤◌, List}
use Rattle.cl_check.specs.JobMoments.{IsMomentOf}
use Rattle.cl_chain.specs.{declared.hops.Writers.Writers, Inner.GroupTables.moment_at}

-- the first job that reads at or after a write
pub record IsFirstReader (reads : List (Option ℕ)) (write job : ℕ) : Type 0 where
  pub read : ℕ
  pub reads_then : moment_at reads job ≡ Some read
  pub after : write ≤ read
  pub least : (other r : ℕ) → moment_at reads other ≡ Some r → write ≤ r → job ≤ other

-- the last job that writes at or before a read
pub record IsLastWriter (writes : List (Option ℕ)) (read job : ℕ) : Type 0 where
  pub write : ℕ
  pub writes_then : moment_at writes job ≡ Some write
  pub before : write ≤ read
  pub greatest : (other w : ℕ) → moment_at writes other ≡ Some w → w ≤ read → other ≤ job

-- a job of number 1 or more writes at a moment
pub record IsWrite (writes : List (Option ℕ)) (job write : ℕ) : Type 0 where
  pub not_first : 1 ≤ job
  pub writes_then : moment_at writes job ≡ Some write

-- a forward hop: from a job of number 1 or more to the first that reads at or after its write
pub record IsForwardHop (writes reads : List (Option ℕ)) (job reader : ℕ) : Type 0 where
  pub write : ℕ
  pub is_write : IsWrite writes job write
  pub is_reader : IsFirstReader reads write reader

-- a backward hop: from a job to the last that writes at or before its read
pub record IsBackwardHop (writes reads : List (Option ℕ)) (writer job : ℕ) : Type 0 where
  pub read : ℕ
  pub reads_then : moment_at reads job ≡ Some read
  pub is_writer : IsLastWriter writes read writer

-- none of the jobs below a place reads at or after a write of the jobs from a number on
pub record AreBeforeWrites (reads writes : List (Option ℕ)) (place from : ℕ) : Type 0 where
  pub before : (k r job w : ℕ) → k < place → moment_at reads k ≡ Some r → from ≤ job → moment_at writes job ≡ Some w → r < w

-- the last job below a place that writes
pub record IsLastBelow (writes : List (Option ℕ)) (place job : ℕ) : Type 0 where
  pub below : job < place
  pub written : (write : ℕ) × (moment_at writes job ≡ Some write)
  pub last : (other w : ℕ) → other < place → moment_at writes other ≡ Some w → other ≤ job

-- how far writers are passed: the last of those passed that writes is known, and each writes by a moment
pub record ArePassed (writes : List (Option ℕ)) (writers : Writers) (by : ℕ) : Type 0 where
  pub last : IsMomentOf (IsLastBelow writes writers.passed) writers.last
  pub early : (job w : ℕ) → job < writers.passed → moment_at writes job ≡ Some w → w ≤ by

-- so they are for the reads of the jobs from a number on
pub record ArePassedFrom (writes reads : List (Option ℕ)) (writers : Writers) (from : ℕ) : Type 0 where
  pub last : IsMomentOf (IsLastBelow writes writers.passed) writers.last
  pub each : (job read : ℕ) → from ≤ job → moment_at reads job ≡ Some read → ArePassed writes writers read

-- a head that goes on: a backward hop to a job, and what stands at the writer
pub record GoesOnFrom (writes reads heads : List (Option ℕ)) (job from : ℕ) : Type 0 where
  pub writer : ℕ
  pub hop : IsBackwardHop writes reads writer job
  pub head : moment_at heads writer ≡ Some from

-- a tail that goes on: a forward hop from a job, and what stands at the reader
pub record GoesOnTo (writes reads tails : List (Option ℕ)) (job to : ℕ) : Type 0 where
  pub reader : ℕ
  pub hop : IsForwardHop writes reads job reader
  pub tail : moment_at tails reader ≡ Some to

-- a job and the job after it write
pub record IsNextWrite (writes : List (Option ℕ)) (job write next : ℕ) : Type 0 where
  pub writes_then : moment_at writes job ≡ Some write
  pub next_then : moment_at writes (job + 1) ≡ Some next

-- the write of the job after a job, where both write, and the write of the job itself
abbrev pub IsOfNext : (writes : List (Option ℕ)) → (job next : ℕ) → Type 0
IsOfNext writes job next = (write : ℕ) × IsNextWrite writes job write next

abbrev pub IsBeforeNext : (writes : List (Option ℕ)) → (job write : ℕ) → Type 0
IsBeforeNext writes job write = (next : ℕ) × IsNextWrite writes job write next
