use Rattle.cl_examples.proofs.ExampleFacts.{two_jobs_for_16, two_jobs_not_for_17}
use Rattle.cl_examples.proofs.laws.arrivals_at_0_and_8.Goals as goal

pub returns-clause-for_16_ticks : goal.returns-clause-for_16_ticks
returns-clause-for_16_ticks c = two_jobs_for_16

pub returns-clause-not_for_17_ticks : goal.returns-clause-not_for_17_ticks
returns-clause-not_for_17_ticks c = two_jobs_not_for_17
