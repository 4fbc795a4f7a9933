use Rattle.std.proofs.Common.{[], ◌∷◌, ◌++◌, ap, ◌∙◌, codes}
use Rattle.std.specs.Prelude.{count_by}
use Rattle.cl_report.specs.Survey.{is_exact, is_past, counted_line, exacts_line}
use Rattle.cl_report.proofs.SurveyPieces.{three_pieces, still_ok}
use Rattle.cl_report.proofs.survey.put_exacts.Goals as goal

pub returns : goal.returns
unfolding exacts_line
returns c =
    let answers = c.args.answers.now in
    still_ok c.put.result _ _
    (three_pieces
    (counted_line (codes "exact ") (count_by is_exact answers))
    (counted_line (codes " past ") (count_by is_past answers))
    (0x0A ∷ []) c.args.text.now c.put_count.new.text c.put_count-2.new.text c.put.new.self
    (c.in_ok-put_count.ensures ∙ ap (λ n. c.args.text.now ++ counted_line (codes "exact ") n) c.count_exact.ensures)
    (c.in_ok-put_count-2.ensures ∙ ap (λ n. c.put_count.new.text ++ counted_line (codes " past ") n) c.count_past.ensures))
    c.put.ensures.ok
