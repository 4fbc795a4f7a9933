use Rattle.std.proofs.Common.{ℕ, List, [], ◌∷◌, ◌++◌, ap, ◌∙◌}
use Rattle.std.proofs.lemmas.Result.{IfOk-weaker}
use Rattle.cl_picture.specs.Pieces.{print}
use Rattle.cl_picture.proofs.Printing.{more_elements}
use Rattle.cl_draw.specs.{declared.{marks.Arrival.Arrival, spans.Span.Span}, MarkLines.{waits_line, arrivals_line, dues_line, labels, mark_lines}}
use Rattle.cl_draw.proofs.mark_lines.put_marks.Goals as goal

pub returns : goal.returns
unfolding mark_lines
returns c =
    let waits = c.in_ok-put_waits.ensures ∙ ap (λ (ws : List Span). c.args.text.now ++ print (waits_line c.args.window ws ∷ [])) c.as_slice.ensures in
    let arrivals = c.in_ok-put_arrivals.ensures ∙ ap (λ (xs : List Arrival). c.put_waits.new.text ++ print (arrivals_line c.args.window xs ∷ [])) c.as_slice-2.ensures in
    let dues = c.in_ok-put_dues.ensures ∙ ap (λ (ds : List ℕ). c.put_arrivals.new.text ++ print (dues_line c.args.window ds ∷ [])) c.as_slice-3.ensures in
    IfOk-weaker c.put_labels.result _ _ (λ _ is. more_elements _ _ _ _ _ (more_elements _ _ _ _ _ (more_elements _ _ _ _ _ waits arrivals) dues)
    (is ∙ ap (λ (xs : List Arrival). c.put_dues.new.text ++ print (labels c.args.window xs)) c.as_slice-4.ensures)) c.put_labels.ensures
