use Rattle.cl_designs.proofs.MarginLines.{text_is}
use Rattle.cl_designs.proofs.margins.margin_text.Goals as goal

pub returns : goal.returns
returns g c = text_is c.args.model.now c.in_ok-found.found c.in_ok-margins.margins c.in_ok-found.ensures.findings c.in_ok-margins.ensures.margins c.text_of.result c.text_of.ensures
