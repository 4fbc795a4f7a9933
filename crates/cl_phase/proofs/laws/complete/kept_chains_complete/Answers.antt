use Rattle.cl_phase.proofs.ChainsComplete.{has_complete_chains}
use Rattle.cl_phase.proofs.laws.complete.kept_chains_complete.Goals as goal

pub returns : goal.returns
returns c = has_complete_chains
