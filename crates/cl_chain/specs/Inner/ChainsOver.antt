-- Job chains over the moments of groups as lists.
use Rattle.std.specs.Prelude.{◌≡◌, ℕ, zero, suc, Option, Some, None, ◌+◌, ◌-◌, ◌<◌, ◌≤◌, List, [], ◌∷◌, length, slice_index}
use Rattle.cl_runs.specs.{Chains.{JobChain, first_job, last_job}, Measured.{Measured, IsMeasuredBy, IsCountOf}}
use Rattle.cl_chain.specs.{declared.group_moments.GroupMoments.GroupMoments, Inner.{GroupTables.{moment_at, NeverFall, reads_in, writes_in}, Hops.{IsWrite, IsForwardHop, IsBackwardHop}}}

-- ---- forward

-- jobs of the first `count` groups that are linked forward, to a write of the last of them
pub record AreForwardJobs (tables : List GroupMoments) (count : ℕ) (jobs : List ℕ) (to : ℕ) : Type 0 where
  pub some : 0 < count
  pub one_a_group : length jobs ≡ count
  pub linked : (i : ℕ) → suc i < count → IsForwardHop (writes_in tables i) (reads_in tables (suc i)) (slice_index jobs i) (slice_index jobs (suc i))
  pub last : (i : ℕ) → suc i ≡ count → IsWrite (writes_in tables i) (slice_index jobs i) to

-- a complete forward chain
pub record IsForwardOver (tables : List GroupMoments) (chain : JobChain) : Type 0 where
  pub jobs : AreForwardJobs tables (length tables) chain.jobs chain.to
  pub from : moment_at (reads_in tables 0) (first_job chain - 1) ≡ Some chain.from

-- what is linked forward from a job of the first group of some, to a write of the last
abbrev pub IsTail : List GroupMoments → (job to : ℕ) → Type 0
IsTail [] job to = ⊥
IsTail (group ∷ []) job to = IsWrite group.writes job to
IsTail (group ∷ next ∷ groups) job to = (reader : ℕ) × IsForwardHop group.writes next.reads job reader × IsTail (next ∷ groups) reader to

-- ---- backward

-- jobs of the first `count` groups that are linked backward
pub record AreBackwardJobs (tables : List GroupMoments) (count : ℕ) (jobs : List ℕ) : Type 0 where
  pub some : 0 < count
  pub one_a_group : length jobs ≡ count
  pub linked : (i : ℕ) → suc i < count → IsBackwardHop (writes_in tables i) (reads_in tables (suc i)) (slice_index jobs i) (slice_index jobs (suc i))

-- jobs of all groups of which those from a place on are linked backward
pub record AreBackwardFrom (tables : List GroupMoments) (place : ℕ) (jobs : List ℕ) : Type 0 where
  pub one_a_group : length jobs ≡ length tables
  pub linked : (i : ℕ) → place ≤ i → suc i < length tables
      → IsBackwardHop (writes_in tables i) (reads_in tables (suc i)) (slice_index jobs i) (slice_index jobs (suc i))

-- what is linked backward to a job of group i, from a read of the first group
abbrev pub IsHead : List GroupMoments → (i job from : ℕ) → Type 0
IsHead tables zero job from = moment_at (reads_in tables 0) job ≡ Some from
IsHead tables (suc i) job from = (writer : ℕ) × IsBackwardHop (writes_in tables i) (reads_in tables (suc i)) writer job × IsHead tables i writer from

-- the last group and its next job
abbrev pub last_writes : List GroupMoments → List (Option ℕ)
last_writes tables = writes_in tables (length tables - 1)

-- a complete backward chain, to the write of the job after the last
pub record IsAgeOver (tables : List GroupMoments) (chain : JobChain) : Type 0 where
  pub jobs : AreBackwardJobs tables (length tables) chain.jobs
  pub from : moment_at (reads_in tables 0) (first_job chain) ≡ Some chain.from
  pub last : (write : ℕ) × (moment_at (last_writes tables) (last_job chain) ≡ Some write)
  pub to : moment_at (last_writes tables) (last_job chain + 1) ≡ Some chain.to

-- a complete backward chain, to the write of the last job
pub record IsReducedOver (tables : List GroupMoments) (chain : JobChain) : Type 0 where
  pub jobs : AreBackwardJobs tables (length tables) chain.jobs
  pub from : moment_at (reads_in tables 0) (first_job chain) ≡ Some chain.from
  pub to : moment_at (last_writes tables) (last_job chain) ≡ Some chain.to
  pub next : (write : ℕ) × (moment_at (last_writes tables) (last_job chain + 1) ≡ Some write)

-- a chain that is linked backward to a job of the last group, to a given moment
pub record IsBackwardTo (tables : List GroupMoments) (last to : ℕ) (chain : JobChain) : Type 0 where
  pub jobs : AreBackwardJobs tables (length tables) chain.jobs
  pub from : moment_at (reads_in tables 0) (first_job chain) ≡ Some chain.from
  pub is_last : last_job chain ≡ last
  pub is_to : chain.to ≡ to

-- the one chain of which something is so, and none where there is no such chain
abbrev pub IsTheChain : (IsSo : JobChain → Type 0) → Option JobChain → Type 0
IsTheChain IsSo None = (chain : JobChain) → IsSo chain → ⊥
IsTheChain IsSo (Some chain) = IsSo chain

-- ---- what is measured

-- there are groups, and the writes of each are in order
pub record AreForwardOrdered (tables : List GroupMoments) : Type 0 where
  pub some : 0 < length tables
  pub writes : (i : ℕ) → i < length tables → NeverFall (writes_in tables i)

-- the moments of each group are in order, and chains end after they begin
pub record AreOrdered (tables : List GroupMoments) : Type 0 where
  pub some : 0 < length tables
  pub reads : (i : ℕ) → i < length tables → NeverFall (reads_in tables i)
  pub writes : (i : ℕ) → i < length tables → NeverFall (writes_in tables i)
  pub forward : (chain : JobChain) → IsForwardOver tables chain → chain.from ≤ chain.to
  pub age : (chain : JobChain) → IsAgeOver tables chain → chain.from ≤ chain.to
  pub reduced : (chain : JobChain) → IsReducedOver tables chain → chain.from ≤ chain.to

-- the measured chains
pub record IsMeasuredOver (tables : List GroupMoments) (measured : Measured) : Type 0 where
  pub is_reaction : IsMeasuredBy (IsForwardOver tables) first_job measured.reaction
  pub is_age : IsMeasuredBy (IsAgeOver tables) last_job measured.age
  pub is_reduced : IsMeasuredBy (IsReducedOver tables) last_job measured.reduced
  pub forward_count : IsCountOf (IsForwardOver tables) measured.forward
  pub backward_count : IsCountOf (IsAgeOver tables) measured.backward
