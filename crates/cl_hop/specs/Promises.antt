-- What bounds promise of legal runs.
use Rattle.std.specs.Prelude.{◌≤◌, List}
use Rattle.cl_model.specs.declared.group.Group.{Group}
use Rattle.cl_runs.specs.{TaskTiming.System, Run.Run, Legal.IsLegal, Chains.{JobChain, chain_length, IsForwardChain, IsAgeChain, IsReducedChain}, RunChains.run_moments, Delays.IsDelayChain}
use Rattle.cl_hop.specs.Bounds.{Lengths}

-- the bounds are at least the lengths of all complete chains of a run, and its delays
pub record AreAtLeast (system : System) (groups : List Group) (bounds : Lengths) (run : Run) : Type 0 where
  pub reaction : (chain : JobChain) → IsForwardChain (run_moments system run) groups chain → chain_length chain ≤ bounds.reaction
  pub age : (chain : JobChain) → IsAgeChain (run_moments system run) groups chain → chain_length chain ≤ bounds.age
  pub reduced : (chain : JobChain) → IsReducedChain (run_moments system run) groups chain → chain_length chain ≤ bounds.reduced
  pub delay : (chain : JobChain) → IsDelayChain system run groups chain → chain_length chain ≤ bounds.delay

-- the bounds are safe: that holds in every legal run, of any length
abbrev pub AreSafe : System → (groups : List Group) → (bounds : Lengths) → Type 0
AreSafe system groups bounds = (run : Run) → IsLegal system run → AreAtLeast system groups bounds run
