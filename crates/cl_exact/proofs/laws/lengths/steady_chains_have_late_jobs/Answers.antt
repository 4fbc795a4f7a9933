use Rattle.cl_exact.proofs.SteadyJobs.{forward_steady, age_steady, reduced_steady}
use Rattle.cl_exact.proofs.laws.lengths.steady_chains_have_late_jobs.Goals as goal

pub returns-clause-forward : goal.returns-clause-forward
returns-clause-forward c = forward_steady

pub returns-clause-age : goal.returns-clause-age
returns-clause-age c = age_steady

pub returns-clause-reduced : goal.returns-clause-reduced
returns-clause-reduced c = reduced_steady
