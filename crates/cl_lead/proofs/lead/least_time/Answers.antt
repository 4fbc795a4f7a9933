use Rattle.std.proofs.Common.{arith}
use Rattle.std.proofs.lemmas.Grind.{common_steps}
use Rattle.cl_lead.proofs.SureTasks.{least_time_is, least_time_small}
use Rattle.cl_lead.proofs.lead.least_time.Goals as goal

pub sum_of_least-requires : goal.sum_of_least-requires
sum_of_least-requires c =
    omega (arith, least_time_small c.args.model.now c.task.ensures.valid c.args.task c.requires c.as_slice.result.now (grind (arith, common_steps)))

pub returns-clause-time : goal.returns-clause-time
returns-clause-time c =
    least_time_is c.args.model.now c.args.task c.requires c.as_slice.result.now (grind (arith, common_steps)) c.sum_of_least.result c.sum_of_least.ensures

pub returns-clause-small : goal.returns-clause-small
returns-clause-small c = omega (
  arith,
  c.sum_of_least.ensures,
  least_time_small c.args.model.now c.task.ensures.valid c.args.task c.requires c.as_slice.result.now (grind (arith, common_steps)),
)
