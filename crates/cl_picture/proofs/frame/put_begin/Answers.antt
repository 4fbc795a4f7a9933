use Rattle.std.proofs.lemmas.Result.{IfOk-weaker, on_err_weaker}
use Rattle.cl_text.proofs.Beginnings.{on_error}
use Rattle.cl_picture.specs.Frame.{begin}
use Rattle.cl_picture.proofs.{Printing.more_elements, Beginnings.{first_elements, second_elements}}
use Rattle.cl_picture.proofs.frame.put_begin.Goals as goal

pub returns-clause-ok : goal.returns-clause-ok
unfolding begin
returns-clause-ok c = IfOk-weaker c.put_line.result _ _ (λ _ is. more_elements _ _ _ _ _ (more_elements _ _ _ _ _ (more_elements _ _ _ _ _ c.in_ok-put_root.ensures.ok c.in_ok-put_title.ensures.ok) c.in_ok-put_style.ensures.ok) is) c.put_line.ensures.ok

pub returns-in_err-put_root-clause-err : goal.returns-in_err-put_root-clause-err
unfolding begin
returns-in_err-put_root-clause-err c = on_error c.from_residual.result _ (first_elements _ _ _ _ c.in_err-put_root.ensures.err)

pub returns-in_err-put_title-clause-err : goal.returns-in_err-put_title-clause-err
unfolding begin
returns-in_err-put_title-clause-err c = on_error c.from_residual-in_err-put_title.result _ (second_elements _ _ _ _ _ c.in_ok-put_root.ensures.ok (first_elements _ _ _ _ c.in_err-put_title.ensures.err))

pub returns-in_err-put_style-clause-err : goal.returns-in_err-put_style-clause-err
unfolding begin
returns-in_err-put_style-clause-err c = on_error c.from_residual-in_err-put_style.result _ (second_elements _ _ _ _ _ (more_elements _ _ _ _ _ c.in_ok-put_root.ensures.ok c.in_ok-put_title.ensures.ok) (first_elements _ _ _ _ c.in_err-put_style.ensures.err))

pub returns-clause-err : goal.returns-clause-err
unfolding begin
returns-clause-err c = on_err_weaker c.put_line.result (λ part. second_elements _ _ _ _ _ (more_elements _ _ _ _ _ (more_elements _ _ _ _ _ c.in_ok-put_root.ensures.ok c.in_ok-put_title.ensures.ok) c.in_ok-put_style.ensures.ok) part) c.put_line.ensures.err
