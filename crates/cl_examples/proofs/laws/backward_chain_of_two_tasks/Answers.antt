use Rattle.cl_examples.proofs.ExampleChains.{age_chain, reduced_chain, only_age}
use Rattle.cl_examples.proofs.laws.backward_chain_of_two_tasks.Goals as goal

pub returns-clause-age_37 : goal.returns-clause-age_37
returns-clause-age_37 c = age_chain

pub returns-clause-reduced_17 : goal.returns-clause-reduced_17
returns-clause-reduced_17 c = reduced_chain

pub returns-clause-no_other : goal.returns-clause-no_other
returns-clause-no_other c = only_age
