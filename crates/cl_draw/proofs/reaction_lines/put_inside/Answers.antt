use Rattle.std.proofs.Common.{List, map, ◌++◌, ap, ◌∙◌}
use Rattle.std.proofs.lemmas.Result.{IfOk-weaker}
use Rattle.cl_picture.specs.Pieces.{print}
use Rattle.cl_picture.proofs.Printing.{more_elements}
use Rattle.cl_draw.specs.{declared.stops.Stop.Stop, ChainLines.{frame_line, inside_lines}}
use Rattle.cl_draw.proofs.reaction_lines.put_inside.Goals as goal

pub returns : goal.returns
unfolding inside_lines
returns c =
    let frames = c.in_ok-put_frames.ensures ∙ ap (λ (ss : List Stop). c.put_steps-2.new.text ++ print (map (frame_line c.args.model.now c.args.look) ss)) c.as_slice.ensures in
    let upper = more_elements _ _ _ _ _ (more_elements _ _ _ _ _ (more_elements _ _ _ _ _ c.in_ok-put_title.ensures c.in_ok-put_falls.ensures) c.in_ok-put_steps.ensures) c.in_ok-put_steps-2.ensures in
    IfOk-weaker c.put_words.result _ _ (λ _ is. more_elements _ _ _ _ _ (more_elements _ _ _ _ _ upper frames)
    (more_elements _ _ _ _ _ (more_elements _ _ _ _ _ (more_elements _ _ _ _ _ c.in_ok-put_input.ensures c.in_ok-put_output.ensures) c.in_ok-put_length.ensures) is)) c.put_words.ensures
