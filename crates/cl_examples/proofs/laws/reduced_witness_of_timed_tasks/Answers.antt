use Rattle.std.proofs.Common.{arith}
use Rattle.cl_examples.proofs.TimedChains.{complete_by, complete_only}
use Rattle.cl_examples.proofs.laws.reduced_witness_of_timed_tasks.Goals as goal

pub returns-clause-in_105_ticks : goal.returns-clause-in_105_ticks
returns-clause-in_105_ticks c = λ run legal ticks. complete_by run legal (omega (arith, ticks))

pub returns-clause-not_in_90_ticks : goal.returns-clause-not_in_90_ticks
returns-clause-not_in_90_ticks c = λ run legal ticks complete. absurd (omega (arith, ticks, complete_only run legal complete))
