use Rattle.std.proofs.Common.{[], ◌∷◌, ◌++◌, length, ap, ◌∙◌, codes}
use Rattle.std.specs.Prelude.{count_by}
use Rattle.cl_bound.specs.Answers.{is_late}
use Rattle.cl_report.specs.Survey.{is_settled, counted_line, tasks_line}
use Rattle.cl_report.proofs.SurveyPieces.{four_pieces, still_ok}
use Rattle.cl_report.proofs.survey.put_tasks.Goals as goal

pub returns : goal.returns
unfolding tasks_line
returns c =
    let answers = c.args.answers.now in
    still_ok c.put.result _ _
    (four_pieces
    (counted_line (codes "tasks ") (length answers))
    (counted_line (codes " settled ") (count_by is_settled answers))
    (counted_line (codes " late ") (count_by is_late answers))
    (0x0A ∷ []) c.args.text.now c.put_count.new.text c.put_count-2.new.text c.put_count-3.new.text c.put.new.self
    c.in_ok-put_count.ensures
    (c.in_ok-put_count-2.ensures ∙ ap (λ n. c.put_count.new.text ++ counted_line (codes " settled ") n) c.count_settled.ensures)
    (c.in_ok-put_count-3.ensures ∙ ap (λ n. c.put_count-2.new.text ++ counted_line (codes " late ") n) c.count_late.ensures))
    c.put.ensures.ok
