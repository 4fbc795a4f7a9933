use Rattle.std.proofs.lemmas.Result.{IfOk-weaker}
use Rattle.cl_draw.specs.ChainLines.{drawn_chain_lines}
use Rattle.cl_picture.proofs.Printing.{more_elements}
use Rattle.cl_draw.proofs.chain_lines.put_chain.Goals as goal

pub returns : goal.returns
unfolding drawn_chain_lines
returns c = IfOk-weaker c.put_line.result _ _ (λ _ is. more_elements _ _ _ _ _ (more_elements _ _ _ _ _ (c.in_ok-put_open.ensures) c.in_ok-put_shown.ensures) is) c.put_line.ensures.ok
