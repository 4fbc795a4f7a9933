use Rattle.std.proofs.Common.{◌≡◌, ◌<◌, length, subst, arith}
use Rattle.cl_bound.specs.{declared.answer.TaskAnswer.TaskAnswer, Answers.answer_at}
use Rattle.cl_report.proofs.ReportLines.{task_answer}
use Rattle.cl_observe.specs.Observed.{GoesOnWith, IsMadeOf, IsTaskText}
use Rattle.cl_observe.proofs.MadeTexts.{none_made, more_made}
use Rattle.cl_observe.proofs.task_lines.put_tasks.Goals as goal

pub loop-task-init : goal.loop-task-init
loop-task-init c = none_made (λ task. IsTaskText c.args.model.now c.args.run.now (answer_at c.args.answers.now task) task) c.args.text.now

pub loop-task-preserved : goal.loop-task-preserved
loop-task-preserved c =
    let i = c.loop-task.task in
    let within : i < length c.args.answers.now = omega (arith, c.loop-task-test.true, c.loop-task.auto.task-end, c.tasks-task-end.ensures.count, c.requires.answers) in
    let found = task_answer c.args.answers.now i c.index-answers-task.result within c.index-answers-task.is in
    more_made (λ task. IsTaskText c.args.model.now c.args.run.now (answer_at c.args.answers.now task) task) i c.args.text.now c.loop-task.text c.put_task.new.text
    c.loop-task.invariant
    (subst (λ (answer : TaskAnswer). GoesOnWith (IsTaskText c.args.model.now c.args.run.now answer i) c.loop-task.text c.put_task.new.text) found
    c.in_ok-put_task.ensures)

pub returns : goal.returns
returns c =
    let all : c.loop-task.task ≡ length c.args.model.now.tasks
    = omega (arith, c.loop-task-test.false, c.loop-task.auto.task-end, c.tasks-task-end.ensures.count) in
    subst (λ n. GoesOnWith (IsMadeOf (λ task. IsTaskText c.args.model.now c.args.run.now (answer_at c.args.answers.now task) task) n) c.args.text.now c.loop-task.text) all
    c.loop-task.invariant
