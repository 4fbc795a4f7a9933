use Rattle.std.proofs.Common.{◌≡◌, length, sym, arith}
use Rattle.cl_sched.proofs.{LawfulTables.lawful_there, Begun.{number_on, all_of_core}, FromTheTop.are_in_any_order}
use Rattle.cl_sched.proofs.core_progress.all_unbegun.Goals as goal

pub returns-clause-of_core : goal.returns-clause-of_core
returns-clause-of_core c =
    let numbers = c.tasks_of_core-task-items.result.now in
    let all : c.loop-task.task-index ≡ length numbers = omega (arith, c.loop-task-test.false, c.loop-task.auto.task-index-end) in
    are_in_any_order _ _ _ _ _ _ c.put_from_the_top.ensures.same
    (all_of_core c.args.model.now c.args.table.now c.args.core c.loop-task.tasks.items numbers c.tasks_of_core-task-items.ensures.tasks
    (omega (arith, c.loop-task.invariant.as_many, all))
    (λ k h. c.loop-task.invariant.begun k (omega (arith, h, all))))

pub unbegun-requires-clause-lawful : goal.unbegun-requires-clause-lawful
unbegun-requires-clause-lawful c =
    lawful_there _ _ _ c.args.table.now
    (sym (number_on c.args.model.now c.args.core c.tasks_of_core-task-items.result.now c.tasks_of_core-task-items.ensures.tasks
    c.loop-task.task-index c.loop-task-test.true))
    c.requires.lawful
