-- The measured chains of a run: the longest of each kind, and how many there are.
use Rattle.std.specs.Prelude.{◌≡◌, ◌≢◌, ℕ, Option, Some, None, ◌<◌, ◌≤◌, List, length, slice_index_or, Contains, All}
use Rattle.cl_model.specs.declared.group.Group.{Group}
use Rattle.cl_runs.specs.Chains.{Moments, JobChain, chain_length, first_job, last_job, IsForwardChain, IsAgeChain, IsReducedChain}

-- a longest of the chains of a kind and, among equals, the one of the least job
pub record IsLongest (IsChain : JobChain → Type 0) (job_of : JobChain → ℕ) (chain : JobChain) : Type 0 where
  pub is_chain : IsChain chain
  pub longest : (other : JobChain) → IsChain other → chain_length other ≤ chain_length chain
  pub least : (other : JobChain) → IsChain other → chain_length other ≡ chain_length chain → job_of chain ≤ job_of other

-- the longest chain of a kind, and none where there is no chain of that kind
abbrev pub IsMeasuredBy : (JobChain → Type 0) → (JobChain → ℕ) → Option JobChain → Type 0
IsMeasuredBy IsChain job_of None = (chain : JobChain) → IsChain chain → ⊥
IsMeasuredBy IsChain job_of (Some chain) = IsLongest IsChain job_of chain

-- how many chains of a kind there are: the length of a list that has each of them once, and nothing else
pub record IsCountOf (IsChain : JobChain → Type 0) (count : ℕ) : Type 0 where
  pub chains : List JobChain
  pub sound : All IsChain chains
  pub complete : (chain : JobChain) → IsChain chain → Contains chains chain
  pub once : (i j : ℕ) (d : JobChain) → i < j → j < length chains → slice_index_or chains i d ≢ slice_index_or chains j d
  pub counted : length chains ≡ count

-- the measured chains: the longest of each kind, and the numbers of complete chains of either direction
pub record Measured : Type 0 where
  pub reaction : Option JobChain
  pub age : Option JobChain
  pub reduced : Option JobChain
  pub forward : ℕ
  pub backward : ℕ

-- the measured chains over some moments
pub record IsMeasured (moments : Moments) (groups : List Group) (measured : Measured) : Type 0 where
  pub is_reaction : IsMeasuredBy (IsForwardChain moments groups) first_job measured.reaction
  pub is_age : IsMeasuredBy (IsAgeChain moments groups) last_job measured.age
  pub is_reduced : IsMeasuredBy (IsReducedChain moments groups) last_job measured.reduced
  pub forward_count : IsCountOf (IsForwardChain moments groups) measured.forward
  pub backward_count : IsCountOf (IsAgeChain moments groups) measured.backward
