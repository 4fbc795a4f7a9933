use Rattle.std.proofs.lemmas.Result.{IfOk-weaker}
use Rattle.cl_picture.proofs.Printing.{more_pieces, line_behind}
use Rattle.cl_draw.specs.RowLines.{bar_line}
use Rattle.cl_draw.proofs.row_lines.put_bar.Goals as goal

pub returns : goal.returns
unfolding bar_line
returns c = IfOk-weaker c.put_line.result _ _ (λ _ is. line_behind _ _ _ _ _ (more_pieces _ _ _ _ _ c.in_ok-put_bar_head.ensures c.in_ok-put_words.ensures) is) c.put_line.ensures.ok
