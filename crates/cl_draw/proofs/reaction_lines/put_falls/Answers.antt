use Rattle.std.proofs.Common.{◌≡◌, ap, ◌∙◌}
use Rattle.cl_draw.specs.ChainLines.{stop_line, first_stop, last_stop}
use Rattle.cl_draw.proofs.reaction_lines.put_falls.Goals as goal

pub returns : goal.returns
returns c =
    let first : c.line_at-first.result ≡ stop_line c.args.model.now c.args.look.colour (first_stop c.args.reaction.now) = c.line_at-first.ensures ∙ ap (stop_line c.args.model.now c.args.look.colour) c.first_stop.ensures.stop in
    let last : c.line_at-last.result ≡ stop_line c.args.model.now c.args.look.colour (last_stop c.args.reaction.now) = c.line_at-last.ensures ∙ ap (stop_line c.args.model.now c.args.look.colour) c.last_stop.ensures.stop in
    rw (← c.x.ensures.x, ← c.x-2.ensures.x, ← first, ← last) c.put_line.ensures.ok
