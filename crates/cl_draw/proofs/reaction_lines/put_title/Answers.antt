use Rattle.std.proofs.Common.{List, ◌++◌, ap, ◌∙◌}
use Rattle.std.specs.List.{flat_map}
use Rattle.std.proofs.lemmas.Result.{IfOk-weaker}
use Rattle.cl_picture.specs.Pieces.{pieces_text}
use Rattle.cl_picture.proofs.Printing.{more_pieces, line_behind}
use Rattle.cl_draw.specs.{declared.stops.Stop.Stop, ChainLines.stop_pieces}
use Rattle.cl_draw.proofs.reaction_lines.put_title.Goals as goal

pub returns : goal.returns
returns c =
    let stops = c.in_ok-put_stops.ensures ∙ ap (λ (ss : List Stop). c.put_title_head.new.text ++ pieces_text (flat_map (stop_pieces c.args.model.now) ss)) c.as_slice.ensures in
    IfOk-weaker c.put_line.result _ _ (λ _ is. line_behind _ _ _ _ _ (more_pieces _ _ _ _ _ c.in_ok-put_title_head.ensures stops) is) c.put_line.ensures.ok
