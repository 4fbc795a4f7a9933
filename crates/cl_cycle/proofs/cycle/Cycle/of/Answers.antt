use Rattle.std.proofs.Common.{sym, ◌∙◌}
use Rattle.cl_runs.specs.SystemOf.{system_of}
use Rattle.cl_cycle.specs.Cycles.{gathered_above}
use Rattle.cl_cycle.proofs.GatheredWork.{cycle_little, cycle_alone}
use Rattle.cl_cycle.proofs.cycle.Cycle.of.Goals as goal

pub returns-then-is_little_work : goal.returns-then-is_little_work
returns-then-is_little_work c =
    let system = system_of c.args.model.now in
    cycle_little system c.args.task c.gather-gathered.result c.gather-gathered.ensures
    (sym (c.is_little_work.ensures (gathered_above system c.args.task) c.gather-gathered.ensures) ∙ c.if-is_little_work.true)

pub returns-else-is_little_work : goal.returns-else-is_little_work
returns-else-is_little_work c =
    let system = system_of c.args.model.now in
    cycle_alone system c.args.task c.alone.result c.alone.ensures.gathered
    (sym (c.is_little_work.ensures (gathered_above system c.args.task) c.gather-gathered.ensures) ∙ c.if-is_little_work.false)
