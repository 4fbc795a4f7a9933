use Rattle.cl_examples.proofs.ExampleChains.{longer_forward, shorter_forward, only_forward}
use Rattle.cl_examples.proofs.laws.forward_chains_of_two_tasks.Goals as goal

pub returns-clause-reaction_37 : goal.returns-clause-reaction_37
returns-clause-reaction_37 c = longer_forward

pub returns-clause-reaction_27 : goal.returns-clause-reaction_27
returns-clause-reaction_27 c = shorter_forward

pub returns-clause-no_other : goal.returns-clause-no_other
returns-clause-no_other c = only_forward
