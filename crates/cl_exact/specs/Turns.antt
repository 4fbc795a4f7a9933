-- Chains of the same length within one hyperperiod. Times are in ticks.
use Rattle.std.specs.Prelude.{◌≡◌, ℕ, ◌+◌, ◌<◌}
use Rattle.cl_runs.specs.Chains.{JobChain, chain_length}

-- a chain has an early twin of its kind: one of the same length that begins less than `ticks` after each chain of the
-- kind, and so after the first of them
pub record HasEarlyTwin (IsChain : JobChain → Type 0) (ticks : ℕ) (chain : JobChain) : Type 0 where
  pub twin : JobChain
  pub is_chain : IsChain twin
  pub same : chain_length twin ≡ chain_length chain
  pub early : (other : JobChain) → IsChain other → twin.from < other.from + ticks
