use Rattle.std.proofs.Common.{true, false, cond, sym, ap, ◌∙◌}
use Rattle.cl_runs.specs.{SystemOf.system_of, TaskTiming.timing_at}
use Rattle.cl_gen.specs.Count.{task_executions}
use Rattle.cl_gen.proofs.TasksOfModels.{mark_is}
use Rattle.cl_gen.proofs.counting.executions_of.Goals as goal

pub returns-then-is_among-clause-count : goal.returns-then-is_among-clause-count
returns-then-is_among-clause-count c =
    let model = c.args.model.now in
    let executions = task_executions c.args.ticks (timing_at (system_of model) c.args.task) in
    c.task_executions.ensures.count ∙ sym (ap (λ b. cond b executions 0)
    (mark_is model c.args.task c.requires.task c.args.cores.now c.core_of.result c.is_among.result true c.core_of.ensures.core c.is_among.ensures c.if-is_among.true))

pub returns-clause-count : goal.returns-clause-count
returns-clause-count c =
    let model = c.args.model.now in
    let executions = task_executions c.args.ticks (timing_at (system_of model) c.args.task) in
    sym (ap (λ b. cond b executions 0)
    (mark_is model c.args.task c.requires.task c.args.cores.now c.core_of.result c.is_among.result false c.core_of.ensures.core c.is_among.ensures c.if-is_among.false))
