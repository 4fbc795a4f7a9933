use Rattle.cl_examples.proofs.TimedChains.{timed_exact}
use Rattle.cl_examples.proofs.laws.exact_lengths_of_timed_tasks.Goals as goal

pub returns : goal.returns
returns c = timed_exact
