use Rattle.cl_explain.proofs.SafelyExplained.{safe_explanation}
use Rattle.cl_explain.proofs.laws.explanations_are_safe.Goals as goal

pub returns : goal.returns
returns c = safe_explanation
