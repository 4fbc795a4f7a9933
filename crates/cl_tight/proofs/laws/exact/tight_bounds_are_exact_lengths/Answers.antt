use Rattle.cl_tight.proofs.ModelTight.{tight_of_groups, tight_of_chain}
use Rattle.cl_tight.proofs.laws.exact.tight_bounds_are_exact_lengths.Goals as goal

pub returns-clause-groups : goal.returns-clause-groups
returns-clause-groups c = tight_of_groups

pub returns-clause-chain : goal.returns-clause-chain
returns-clause-chain c = tight_of_chain
