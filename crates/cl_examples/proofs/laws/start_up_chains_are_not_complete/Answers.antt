use Rattle.cl_examples.proofs.ExampleChains.{start_up_reader, no_start_up}
use Rattle.cl_examples.proofs.laws.start_up_chains_are_not_complete.Goals as goal

pub returns-clause-linked : goal.returns-clause-linked
returns-clause-linked c = start_up_reader

pub returns-clause-not_complete : goal.returns-clause-not_complete
returns-clause-not_complete c = no_start_up
