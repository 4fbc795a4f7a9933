use Rattle.std.proofs.lemmas.Result.{IfOk-weaker}
use Rattle.cl_picture.proofs.Printing.{more_elements}
use Rattle.cl_draw.proofs.drawing.put_name.Goals as goal

pub returns : goal.returns
returns c = IfOk-weaker c.put_ground.result _ _ (λ _ is. more_elements _ _ _ _ _ c.in_ok-put_name_line.ensures is) c.put_ground.ensures
