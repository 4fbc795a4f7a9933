-- Groups along which some legal run has complete chains, and bounds of a tick or more.
use Rattle.std.specs.Prelude.{◌≤◌, List}
use Rattle.cl_model.specs.declared.{chain.LengthKind.LengthKind, group.Group.Group}
use Rattle.cl_runs.specs.{TaskTiming.System, Run.Run, Legal.IsLegal, Chains.{JobChain, chain_length}, RunChains.run_moments, Requirements.IsChainOfKind}
use Rattle.cl_hop.specs.Bounds.{Lengths}

-- a run has a complete chain of a kind along groups, and it lasts 1 tick or more
pub record HasChainOfKind (system : System) (run : Run) (groups : List Group) (kind : LengthKind) : Type 0 where
  pub chain : JobChain
  pub complete : IsChainOfKind kind (run_moments system run) groups chain
  pub lasts : 1 ≤ chain_length chain

-- some legal run has such a chain of each kind
pub record HasCompleteChains (system : System) (groups : List Group) : Type 0 where
  pub run : Run
  pub legal : IsLegal system run
  pub each : (kind : LengthKind) → HasChainOfKind system run groups kind

-- bounds are 1 tick or more
pub record AreSomeTicks (bounds : Lengths) : Type 0 where
  pub reaction : 1 ≤ bounds.reaction
  pub age : 1 ≤ bounds.age
  pub reduced : 1 ≤ bounds.reduced
  pub delay : 1 ≤ bounds.delay
