use Rattle.cl_designs.proofs.SafeTexts.{safe_headroom_text}
use Rattle.cl_designs.proofs.laws.headroom_texts_are_safe.Goals as goal

pub returns : goal.returns
returns c = safe_headroom_text
