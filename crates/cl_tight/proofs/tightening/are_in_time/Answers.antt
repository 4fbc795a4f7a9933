use Rattle.std.proofs.Common.{sym, ◌∙◌, arith}
use Rattle.cl_tight.proofs.{TightTimings.answer_count, Verified.{late_found, none_found}}
use Rattle.cl_tight.proofs.tightening.are_in_time.Goals as goal

pub bounds-answers-task : goal.bounds-answers-task
bounds-answers-task c = omega (arith, c.loop-task-test.true, c.tasks-task-end.ensures.count, answer_count c.args.model.now c.args.answers.now c.requires)

pub returns-then-is_late-clause-timely : goal.returns-then-is_late-clause-timely
returns-then-is_late-clause-timely c =
    late_found c.args.answers.now c.loop-task.task c.index-answers-task.result
    (omega (arith, c.loop-task-test.true, c.tasks-task-end.ensures.count, answer_count c.args.model.now c.args.answers.now c.requires))
    c.index-answers-task.is (sym c.is_late.ensures ∙ c.if-is_late.true)

pub returns-clause-timely : goal.returns-clause-timely
returns-clause-timely c =
    none_found c.args.answers.now c.loop-task.task
    (omega (arith, c.loop-task-test.false, c.tasks-task-end.ensures.count, answer_count c.args.model.now c.args.answers.now c.requires)) c.loop-task.invariant
