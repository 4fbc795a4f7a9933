use Rattle.cl_check.proofs.{JobsInOrder.groups_in_order, ModelsInOrder.chain_in_order}
use Rattle.cl_check.proofs.laws.groups_of_runs_are_in_order.Goals as goal

pub returns-clause-groups : goal.returns-clause-groups
returns-clause-groups c = groups_in_order

pub returns-clause-chain : goal.returns-clause-chain
returns-clause-chain c = chain_in_order
