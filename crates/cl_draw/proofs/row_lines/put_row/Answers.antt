use Rattle.std.proofs.Common.{List, map, ◌++◌, ap, ◌∙◌}
use Rattle.std.specs.Prelude.{codes}
use Rattle.std.proofs.lemmas.Result.{IfOk-weaker}
use Rattle.cl_model.specs.{declared.task.TaskDef.TaskDef, ByNumber.task_at}
use Rattle.cl_picture.specs.{declared.item.Bar.Bar, Pieces.print}
use Rattle.cl_picture.proofs.Printing.{more_elements}
use Rattle.cl_draw.specs.{declared.marks.Marks.Marks, MarkLines.mark_lines, RowLines.{bar_line, row_lines}}
use Rattle.cl_draw.proofs.row_lines.put_row.Goals as goal

pub returns : goal.returns
unfolding row_lines
returns c =
    let task = task_at c.args.of.model.now c.args.of.task in
    let bands = c.in_ok-put_bars.ensures ∙ ap (λ (bs : List Bar). c.put_shift.new.text ++ print (map (bar_line (codes "<rect class=\"r") c.task-task.result.now) bs)) c.as_slice.ensures
    ∙ ap (λ (t : TaskDef). c.put_shift.new.text ++ print (map (bar_line (codes "<rect class=\"r") t) c.args.row.now.bands)) c.task-task.ensures.task in
    let parts = c.in_ok-put_bars-2.ensures ∙ ap (λ (bs : List Bar). c.put_bars.new.text ++ print (map (bar_line (codes "<rect class=\"e") c.task-task.result.now) bs)) c.as_slice-2.ensures
    ∙ ap (λ (t : TaskDef). c.put_bars.new.text ++ print (map (bar_line (codes "<rect class=\"e") t) c.args.row.now.parts)) c.task-task.ensures.task in
    let marks = c.in_ok-put_marks.ensures ∙ ap (λ (m : Marks). c.put_bars-2.new.text ++ print (mark_lines c.args.window m)) c.in_ok-marks.ensures in
    IfOk-weaker c.put_line.result _ _ (λ _ is. more_elements _ _ _ _ _ (more_elements _ _ _ _ _ (more_elements _ _ _ _ _ (more_elements _ _ _ _ _ c.in_ok-put_shift.ensures.ok bands) parts) marks) is) c.put_line.ensures.ok
