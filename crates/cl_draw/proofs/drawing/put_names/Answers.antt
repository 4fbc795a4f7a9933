use Rattle.std.proofs.lemmas.Result.{IfOk-weaker}
use Rattle.cl_draw.specs.Picture.{row_names}
use Rattle.cl_picture.proofs.Printing.{more_elements}
use Rattle.cl_draw.proofs.drawing.put_names.Goals as goal

pub returns : goal.returns
unfolding row_names
returns c = IfOk-weaker c.put_chain_names.result _ _ (λ _ is. more_elements _ _ _ _ _ (c.in_ok-put_task_names.ensures) is) c.put_chain_names.ensures
