use Rattle.std.proofs.lemmas.Result.{IfOk-weaker}
use Rattle.cl_picture.proofs.Printing.{more_pieces}
use Rattle.cl_draw.proofs.row_lines.put_band.Goals as goal

pub returns : goal.returns
returns c = IfOk-weaker c.put_pieces-2.result _ _ (λ _ is. more_pieces _ _ _ _ _ (more_pieces _ _ _ _ _ c.in_ok-put_pieces.ensures.ok c.in_ok-put_finish.ensures) is) c.put_pieces-2.ensures.ok
