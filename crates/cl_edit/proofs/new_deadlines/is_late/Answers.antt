use Rattle.std.proofs.Common.{◌+◌, ◌||◌, drop, sym, ap, ◌∙◌}
use Rattle.std.specs.List.{list_any}
use Rattle.cl_edit.specs.Inner.NewTasks.{is_task_below}
use Rattle.cl_edit.proofs.NewTaskChecks.{any_next, any_end}
use Rattle.cl_edit.proofs.new_deadlines.is_late.Goals as goal

pub returns-then-is_above : goal.returns-then-is_above
returns-then-is_above c =
    let above = is_task_below c.args.model.now c.args.new.now in
    sym (c.loop-i.invariant ∙ any_next above c.args.tasks.now c.loop-i.i c.index-tasks-i.result c.loop-i-test.true c.index-tasks-i.is
    ∙ ap (λ b. b || list_any above (drop (c.loop-i.i + 1) c.args.tasks.now)) (sym c.is_above.ensures ∙ c.if-is_above.true))

pub loop-i-preserved : goal.loop-i-preserved
loop-i-preserved c =
    let above = is_task_below c.args.model.now c.args.new.now in
    c.loop-i.invariant ∙ any_next above c.args.tasks.now c.loop-i.i c.index-tasks-i.result c.loop-i-test.true c.index-tasks-i.is
    ∙ ap (λ b. b || list_any above (drop (c.loop-i.i + 1) c.args.tasks.now)) (sym c.is_above.ensures ∙ c.if-is_above.false)

pub returns : goal.returns
returns c = sym (c.loop-i.invariant ∙ any_end (is_task_below c.args.model.now c.args.new.now) c.args.tasks.now c.loop-i.i c.loop-i-test.false)
