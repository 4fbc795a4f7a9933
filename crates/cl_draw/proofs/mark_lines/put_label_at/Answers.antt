use Rattle.std.proofs.Common.{Bool, if◌then◌else◌, [], ◌∷◌, ◌++◌, sym, ap, ◌∙◌}
use Rattle.cl_picture.specs.Pieces.{print}
use Rattle.cl_picture.proofs.Printing.{no_elements}
use Rattle.cl_draw.specs.MarkLines.{arrival_at, arrival_label_line}
use Rattle.cl_draw.proofs.mark_lines.put_label_at.Goals as goal

pub returns-else-has_room : goal.returns-else-has_room
returns-else-has_room c =
    let line = arrival_label_line c.args.window (arrival_at c.args.arrivals.now c.args.k) in
    no_elements c.args.text.now
    ∙ ap (λ (b : Bool). c.args.text.now ++ print (if b then line ∷ [] else [])) (sym c.if-has_room.false ∙ c.has_room.ensures)
