use Rattle.std.proofs.Common.{◌<◌, length, ap, ◌∙◌, arith, take_all}
use Rattle.std.specs.Prelude.{sum_by}
use Rattle.std.proofs.lemmas.List.Sums.{sum_by_more}
use Rattle.cl_runs.specs.{SystemOf.system_of, TaskTiming.no_timing}
use Rattle.cl_runs.proofs.ModelSystem.{count_is}
use Rattle.cl_gen.specs.Count.{task_executions}
use Rattle.cl_gen.proofs.counting.execution_count.Goals as goal

pub loop-task-preserved : goal.loop-task-preserved
loop-task-preserved c =
    let tasks = (system_of c.args.model.now).tasks in
    let within : c.loop-task.task < length tasks = omega (arith, c.loop-task-test.true, c.tasks-task-end.ensures.count, count_is c.args.model.now) in
    record {
      sum = omega (
        arith,
        c.loop-task.invariant.sum,
        c.task_executions-count.ensures.count,
        sum_by_more (task_executions c.args.ticks) tasks c.loop-task.task no_timing within,
      );
      few = omega (arith, c.loop-task.invariant.few, c.task_executions-count.ensures.few);
    }

pub returns-clause-count : goal.returns-clause-count
returns-clause-count c =
    let tasks = (system_of c.args.model.now).tasks in
    c.loop-task.invariant.sum
    ∙ ap (sum_by (task_executions c.args.ticks))
    (take_all c.loop-task.task tasks (omega (arith, c.loop-task-test.false, c.tasks-task-end.ensures.count, count_is c.args.model.now)))
