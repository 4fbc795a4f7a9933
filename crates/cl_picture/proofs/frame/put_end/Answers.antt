use Rattle.std.proofs.lemmas.Result.{IfOk-weaker, on_err_weaker}
use Rattle.cl_text.proofs.Beginnings.{on_error}
use Rattle.cl_picture.specs.Frame.{end}
use Rattle.cl_picture.proofs.{Printing.more_elements, Beginnings.{first_elements, second_elements}}
use Rattle.cl_picture.proofs.frame.put_end.Goals as goal

pub returns-clause-ok : goal.returns-clause-ok
unfolding end
returns-clause-ok c = IfOk-weaker c.put_line-3.result _ _ (λ _ is. more_elements _ _ _ _ _ (more_elements _ _ _ _ _ (more_elements _ _ _ _ _ c.in_ok-put_shift.ensures.ok c.in_ok-put_line.ensures.ok) c.in_ok-put_line-2.ensures.ok) is) c.put_line-3.ensures.ok

pub returns-in_err-put_shift-clause-err : goal.returns-in_err-put_shift-clause-err
unfolding end
returns-in_err-put_shift-clause-err c = on_error c.from_residual.result _ (first_elements _ _ _ _ c.in_err-put_shift.ensures.err)

pub returns-in_err-put_line-clause-err : goal.returns-in_err-put_line-clause-err
unfolding end
returns-in_err-put_line-clause-err c = on_error c.from_residual-in_err-put_line.result _ (second_elements _ _ _ _ _ c.in_ok-put_shift.ensures.ok (first_elements _ _ _ _ c.in_err-put_line.ensures.err))

pub returns-in_err-put_line-2-clause-err : goal.returns-in_err-put_line-2-clause-err
unfolding end
returns-in_err-put_line-2-clause-err c = on_error c.from_residual-in_err-put_line-2.result _ (second_elements _ _ _ _ _ (more_elements _ _ _ _ _ c.in_ok-put_shift.ensures.ok c.in_ok-put_line.ensures.ok) (first_elements _ _ _ _ c.in_err-put_line-2.ensures.err))

pub returns-clause-err : goal.returns-clause-err
unfolding end
returns-clause-err c = on_err_weaker c.put_line-3.result (λ part. second_elements _ _ _ _ _ (more_elements _ _ _ _ _ (more_elements _ _ _ _ _ c.in_ok-put_shift.ensures.ok c.in_ok-put_line.ensures.ok) c.in_ok-put_line-2.ensures.ok) part) c.put_line-3.ensures.err
