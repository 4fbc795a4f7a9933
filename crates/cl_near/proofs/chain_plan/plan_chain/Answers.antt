use Rattle.cl_model.specs.Groups.{no_group, group_at}
use Rattle.cl_near.proofs.MarkedCores.{marked_is_among}
use Rattle.cl_near.proofs.chain_plan.plan_chain.Goals as goal

pub returns : goal.returns
returns c = λ place within.
    marked_is_among c.args.model.now c.in_ok-cores.cores (group_at c.args.groups.now place).task (c.requires.of_tasks place no_group within).known
    (c.in_ok-cores.ensures place within)
