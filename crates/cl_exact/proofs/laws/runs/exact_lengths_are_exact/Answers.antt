use Rattle.cl_exact.proofs.RunExact.{exact_in_runs, model_exact_in_runs}
use Rattle.cl_exact.proofs.laws.runs.exact_lengths_are_exact.Goals as goal

pub returns : goal.returns
returns c = record { systems = exact_in_runs; models = model_exact_in_runs }
