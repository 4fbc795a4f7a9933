use Rattle.std.proofs.Common.{rules, append_assoc}
use Rattle.std.proofs.lemmas.Result.{on_err_weaker}
use Rattle.cl_text.proofs.Beginnings.{on_error, puts_none, puts_first, puts_second}
use Rattle.cl_picture.specs.Pieces.{print}
use Rattle.cl_picture.proofs.pieces.put_line.Goals as goal

pub returns-clause-ok : goal.returns-clause-ok
unfolding print
returns-clause-ok c = search (rules, append_assoc)

pub returns-in_err-put_pieces-clause-err : goal.returns-in_err-put_pieces-clause-err
unfolding print
returns-in_err-put_pieces-clause-err c =
    on_error c.from_residual.result _ (puts_first _ _ _ _ (puts_first _ _ _ _ c.in_err-put_pieces.ensures.err))

pub returns-clause-err : goal.returns-clause-err
unfolding print
returns-clause-err c =
    on_err_weaker c.put.result (λ same. puts_first _ _ _ _ (puts_second _ _ _ _ _ c.in_ok-put_pieces.ensures.ok (puts_none _ _ _ same))) c.put.ensures.err
