use Rattle.std.proofs.Common.{[], ◌∷◌, ◌++◌, ap, ◌∙◌, codes}
use Rattle.cl_model.specs.declared.chain.LengthKind.TheVariants.{Reaction, Age, Reduced}
use Rattle.cl_report.specs.Survey.{bound_sum, counted_line, sums_line}
use Rattle.cl_report.proofs.SurveyPieces.{four_pieces, still_ok}
use Rattle.cl_report.proofs.survey.put_sums.Goals as goal

pub returns : goal.returns
unfolding sums_line
returns c =
    let answers = c.args.answers.now in
    still_ok c.put.result _ _
    (four_pieces
    (counted_line (codes "sums reaction ") (bound_sum Reaction answers))
    (counted_line (codes " age ") (bound_sum Age answers))
    (counted_line (codes " reduced ") (bound_sum Reduced answers))
    (0x0A ∷ []) c.args.text.now c.put_count.new.text c.put_count-2.new.text c.put_count-3.new.text c.put.new.self
    (c.in_ok-put_count.ensures ∙ ap (λ n. c.args.text.now ++ counted_line (codes "sums reaction ") n) c.bound_sum.ensures)
    (c.in_ok-put_count-2.ensures ∙ ap (λ n. c.put_count.new.text ++ counted_line (codes " age ") n) c.bound_sum-2.ensures)
    (c.in_ok-put_count-3.ensures ∙ ap (λ n. c.put_count-2.new.text ++ counted_line (codes " reduced ") n) c.bound_sum-3.ensures))
    c.put.ensures.ok
