use Rattle.std.proofs.Common.{◌<◌, None, ◌++◌, length, ap, ◌∙◌, arith}
use Rattle.cl_text.proofs.MoreLines.{line_more}
use Rattle.cl_margin.specs.declared.{answer.Margin.Margin, whose.Whose.TheVariants.OneTask}
use Rattle.cl_designs.specs.Margins.{margin_line, task_margin_line}
use Rattle.cl_designs.proofs.MarginLines.{break_is_known, margin_read, read_is_margin}
use Rattle.cl_designs.proofs.margins.put_tasks.Goals as goal

pub bounds-as_slice-task : goal.bounds-as_slice-task
bounds-as_slice-task c =
    omega (arith, ap length c.as_slice.ensures, c.requires.one_a_task, c.loop-task-test.true, c.tasks-task-end.ensures.count)

pub put_task-requires-clause-percent : goal.put_task-requires-clause-percent
put_task-requires-clause-percent c =
    let task = c.loop-task.task in
    let within : task < length c.args.model.now.tasks = omega (arith, c.loop-task-test.true, c.tasks-task-end.ensures.count) in
    let margin = read_is_margin c.args.model.now c.args.margins.now c.as_slice.result.now c.as_slice.ensures c.requires.one_a_task task within
    (record { percent = 0; breaks = None }) (c.requires.margins task within) in
    margin.best.few

pub put_task-requires-clause-breaks : goal.put_task-requires-clause-breaks
put_task-requires-clause-breaks c =
    let task = c.loop-task.task in
    let within : task < length c.args.model.now.tasks = omega (arith, c.loop-task-test.true, c.tasks-task-end.ensures.count) in
    let margin = read_is_margin c.args.model.now c.args.margins.now c.as_slice.result.now c.as_slice.ensures c.requires.one_a_task task within
    (record { percent = 0; breaks = None }) (c.requires.margins task within) in
    break_is_known c.args.model.now (OneTask task) _ _ margin.breaks

pub loop-task-preserved : goal.loop-task-preserved
loop-task-preserved c =
    let model = c.args.model.now in
    let margins = c.args.margins.now in
    let task = c.loop-task.task in
    let within : task < length model.tasks = omega (arith, c.loop-task-test.true, c.tasks-task-end.ensures.count) in
    let found = margin_read model margins c.as_slice.result.now c.as_slice.ensures c.requires.one_a_task task within (record { percent = 0; breaks = None }) in
    line_more (task_margin_line model margins) c.args.text.now c.loop-task.text c.put_task.new.text task c.loop-task.invariant
    (c.in_ok-put_task.ensures ∙ ap (λ (margin : Margin). c.loop-task.text ++ margin_line model margin task) found)
