use Rattle.cl_examples.proofs.ExampleChains.{measured}
use Rattle.cl_examples.proofs.laws.measured_of_two_tasks.Goals as goal

pub returns : goal.returns
returns c = measured
