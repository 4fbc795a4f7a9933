-- The greatest delay of a run, which may be negative: in a run that isn't legal a job may have run before it arrived.
use Rattle.std.specs.Prelude.{◌≡◌, Option, Some, None, ◌+◌, ◌≤◌}
use Rattle.cl_runs.specs.Chains.{JobChain, first_job}

-- a chain whose end lies furthest behind its beginning, counted negative where it lies before, among the chains of a kind;
-- among equals the one of the least first job
pub record IsGreatestDelay (IsChain : JobChain → Type 0) (chain : JobChain) : Type 0 where
  pub is_chain : IsChain chain
  pub greatest : (other : JobChain) → IsChain other → other.to + chain.from ≤ chain.to + other.from
  pub least : (other : JobChain) → IsChain other → other.to + chain.from ≡ chain.to + other.from → first_job chain ≤ first_job other

-- that chain, and none where there is no chain of the kind
abbrev pub IsGreatestDelayBy : (JobChain → Type 0) → Option JobChain → Type 0
IsGreatestDelayBy IsChain None = (chain : JobChain) → IsChain chain → ⊥
IsGreatestDelayBy IsChain (Some chain) = IsGreatestDelay IsChain chain
