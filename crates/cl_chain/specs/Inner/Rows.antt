-- Rows: the jobs that have both a start and an end, with both.
use Rattle.std.specs.Prelude.{◌≡◌, ℕ, Option, Some, ◌+◌, ◌-◌, ◌<◌, ◌≤◌, List, length, slice_index}
use Rattle.cl_runs.specs.Chains.{JobChain}
use Rattle.cl_chain.specs.{declared.rows.Rows.Rows, Inner.GroupTables.moment_at}

-- the rows of the jobs below a number: the jobs, their starts and their ends
pub record AreRowsBelow (count : ℕ) (starts ends : List (Option ℕ)) (jobs froms tos : List ℕ) : Type 0 where
  pub as_many_starts : length froms ≡ length jobs
  pub as_many_ends : length tos ≡ length jobs
  pub below : (i : ℕ) → i < length jobs → slice_index jobs i < count
  pub starts_then : (i : ℕ) → i < length jobs → moment_at starts (slice_index jobs i) ≡ Some (slice_index froms i)
  pub ends_then : (i : ℕ) → i < length jobs → moment_at ends (slice_index jobs i) ≡ Some (slice_index tos i)
  pub rise : (i j : ℕ) → i < j → j < length jobs → slice_index jobs i < slice_index jobs j
  pub complete : (job from to : ℕ) → job < count → moment_at starts job ≡ Some from → moment_at ends job ≡ Some to
      → (i : ℕ) × (i < length jobs) × (slice_index jobs i ≡ job)

-- the rows of all jobs
abbrev pub AreRows : (starts ends : List (Option ℕ)) → Rows → Type 0
AreRows starts ends rows = AreRowsBelow (length ends) starts ends rows.jobs rows.starts rows.ends

-- how long a row lasts
abbrev pub row_length : Rows → (i : ℕ) → ℕ
row_length rows i = slice_index rows.ends i - slice_index rows.starts i

-- the first of the rows that last longest
pub record IsLongestRow (rows : Rows) (place : ℕ) : Type 0 where
  pub within : place < length rows.jobs
  pub longest : (i : ℕ) → i < length rows.jobs → row_length rows i ≤ row_length rows place
  pub first : (i : ℕ) → i < place → row_length rows i < row_length rows place

-- one row lasts longer than another, where a row may end before it starts
abbrev pub LastsLonger : Rows → (one other : ℕ) → Type 0
LastsLonger rows one other = slice_index rows.ends other + slice_index rows.starts one < slice_index rows.ends one + slice_index rows.starts other

-- the first of those that last longest so
pub record IsGreatestRow (rows : Rows) (place : ℕ) : Type 0 where
  pub within : place < length rows.jobs
  pub longest : (i : ℕ) → i < length rows.jobs
      → slice_index rows.ends i + slice_index rows.starts place ≤ slice_index rows.ends place + slice_index rows.starts i
  pub first : (i : ℕ) → i < place → LastsLonger rows place i

-- the chains of a kind are those of the jobs that have a start and an end
pub record IsOfRows (IsChain : JobChain → Type 0) (job_of : JobChain → ℕ) (starts ends : List (Option ℕ)) : Type 0 where
  pub chain : (job from to : ℕ) → moment_at starts job ≡ Some from → moment_at ends job ≡ Some to → (chain : JobChain) × IsChain chain × (job_of chain ≡ job)
  pub start : (chain : JobChain) → IsChain chain → moment_at starts (job_of chain) ≡ Some chain.from
  pub end : (chain : JobChain) → IsChain chain → moment_at ends (job_of chain) ≡ Some chain.to
  pub once : (one other : JobChain) → IsChain one → IsChain other → job_of one ≡ job_of other → one ≡ other

-- and rows are theirs
pub record AreRowsOf (IsChain : JobChain → Type 0) (job_of : JobChain → ℕ) (rows : Rows) : Type 0 where
  pub starts : List (Option ℕ)
  pub ends : List (Option ℕ)
  pub chains : IsOfRows IsChain job_of starts ends
  pub are_rows : AreRows starts ends rows
