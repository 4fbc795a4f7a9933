use Rattle.std.proofs.Common.{ℕ, ◌<◌, ◌++◌, length, ap, subst, ◌∙◌, arith}
use Rattle.cl_bound.specs.{declared.answer.TaskAnswer.TaskAnswer, Answers.answer_at}
use Rattle.cl_text.specs.Beginnings.{PutsPart}
use Rattle.cl_text.proofs.{Beginnings.{puts_lines, on_error}, MoreLines.line_more}
use Rattle.cl_report.specs.Report.{task_line}
use Rattle.cl_report.proofs.ReportLines.{task_answer}
use Rattle.cl_report.proofs.lines.put_tasks.Goals as goal

pub loop-task-preserved : goal.loop-task-preserved
loop-task-preserved c =
    let i = c.loop-task.task in
    let within : i < length c.args.tasks.now = omega (arith, c.loop-task-test.true, c.loop-task.auto.task-end, c.tasks-task-end.ensures.count, c.requires) in
    let found = task_answer c.args.tasks.now i c.index-as_slice-task.result within (rw c.as_slice.ensures at c.index-as_slice-task.is) in
    line_more (λ (task : ℕ). task_line c.args.model.now (answer_at c.args.tasks.now task) task) c.args.text.now c.loop-task.text c.put_task.new.text i c.loop-task.invariant
    (c.in_ok-put_task.ensures.ok ∙ ap (λ (answer : TaskAnswer). c.loop-task.text ++ task_line c.args.model.now answer i) found)

pub returns-in_err-put_task-clause-err : goal.returns-in_err-put_task-clause-err
returns-in_err-put_task-clause-err c =
    let i = c.loop-task.task in
    let known : i < length c.args.model.now.tasks = omega (arith, c.loop-task-test.true, c.loop-task.auto.task-end, c.tasks-task-end.ensures.count) in
    let within : i < length c.args.tasks.now = omega (arith, known, c.requires) in
    let found = task_answer c.args.tasks.now i c.index-as_slice-task.result within (rw c.as_slice.ensures at c.index-as_slice-task.is) in
    on_error c.from_residual.result _
    (puts_lines (λ (task : ℕ). task_line c.args.model.now (answer_at c.args.tasks.now task) task) c.args.text.now c.loop-task.text c.put_task.new.text i
    (length c.args.model.now.tasks) known c.loop-task.invariant
    (subst (λ (answer : TaskAnswer). PutsPart c.loop-task.text c.put_task.new.text (task_line c.args.model.now answer i)) found c.in_err-put_task.ensures.err))
