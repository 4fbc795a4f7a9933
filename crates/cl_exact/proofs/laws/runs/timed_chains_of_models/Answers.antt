use Rattle.cl_exact.proofs.RunTasks.{settled_timed_chain}
use Rattle.cl_exact.proofs.laws.runs.timed_chains_of_models.Goals as goal

pub returns : goal.returns
returns c = settled_timed_chain
