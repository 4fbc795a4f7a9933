use Rattle.std.proofs.Common.{arith}
use Rattle.std.proofs.lemmas.Grind.{common_steps}
use Rattle.cl_resp.specs.Response.{demand}
use Rattle.cl_resp.proofs.answering.small_demand.Goals as goal

pub returns-clause-demand : goal.returns-clause-demand
unfolding demand
returns-clause-demand c = grind (arith, common_steps)
