use Rattle.std.proofs.lemmas.Result.{IfOk-weaker, on_err_weaker}
use Rattle.cl_text.proofs.Beginnings.{on_error}
use Rattle.cl_picture.specs.Axis.{axis}
use Rattle.cl_picture.proofs.{Printing.more_elements, Beginnings.{first_elements, second_elements}}
use Rattle.cl_picture.proofs.axis.put_axis.Goals as goal

pub returns-clause-ok : goal.returns-clause-ok
unfolding axis
returns-clause-ok c = IfOk-weaker c.put_ticks.result _ _ (λ _ is. more_elements _ _ _ _ _ (more_elements _ _ _ _ _ c.in_ok-put_lines.ensures.ok c.in_ok-put_line.ensures.ok) is) c.put_ticks.ensures.ok

pub returns-in_err-put_lines-clause-err : goal.returns-in_err-put_lines-clause-err
unfolding axis
returns-in_err-put_lines-clause-err c = on_error c.from_residual.result _ (first_elements _ _ _ _ c.in_err-put_lines.ensures.err)

pub returns-in_err-put_line-clause-err : goal.returns-in_err-put_line-clause-err
unfolding axis
returns-in_err-put_line-clause-err c = on_error c.from_residual-in_err-put_line.result _ (second_elements _ _ _ _ _ c.in_ok-put_lines.ensures.ok (first_elements _ _ _ _ c.in_err-put_line.ensures.err))

pub returns-clause-err : goal.returns-clause-err
unfolding axis
returns-clause-err c = on_err_weaker c.put_ticks.result (λ part. second_elements _ _ _ _ _ (more_elements _ _ _ _ _ c.in_ok-put_lines.ensures.ok c.in_ok-put_line.ensures.ok) part) c.put_ticks.ensures.err
