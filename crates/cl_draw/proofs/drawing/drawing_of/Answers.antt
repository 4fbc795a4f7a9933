use Rattle.cl_draw.proofs.DrawnFacts.{is_drawing}
use Rattle.cl_draw.proofs.drawing.drawing_of.Goals as goal

pub returns-clause-drawing : goal.returns-clause-drawing
returns-clause-drawing c = is_drawing c.args.model.now c.in_ok-reactions_of.ensures.valid c.args.run.now c.requires.legal _ c.requires.window c.in_ok-places_of.ensures
    c.in_ok-rows_of.ensures.count c.in_ok-rows_of.ensures.rows c.in_ok-reactions_of.ensures.count c.in_ok-reactions_of.ensures.reactions
