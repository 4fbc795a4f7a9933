use Rattle.std.proofs.Common.{◌≡◌, ap, ◌∙◌}
use Rattle.cl_draw.specs.ChainLines.{stop_line, last_stop}
use Rattle.cl_draw.proofs.reaction_lines.put_output.Goals as goal

pub returns : goal.returns
returns c =
    let line : c.line_at.result ≡ stop_line c.args.model.now c.args.look.colour (last_stop c.args.reaction.now) = c.line_at.ensures ∙ ap (stop_line c.args.model.now c.args.look.colour) c.last_stop-last.ensures.stop in
    rw (← c.x.ensures.x, ← line) c.put_line.ensures.ok
