use Rattle.cl_designs.proofs.SafeTexts.{safe_order_text}
use Rattle.cl_designs.proofs.laws.order_texts_are_safe.Goals as goal

pub returns : goal.returns
returns c = safe_order_text
