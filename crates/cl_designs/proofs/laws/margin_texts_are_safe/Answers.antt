use Rattle.cl_designs.proofs.MarginTexts.{safe_margin_text}
use Rattle.cl_designs.proofs.laws.margin_texts_are_safe.Goals as goal

pub returns : goal.returns
returns c = safe_margin_text
