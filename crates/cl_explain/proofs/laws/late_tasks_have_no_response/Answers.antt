use Rattle.cl_explain.proofs.SafelyExplained.{safe_acceptance}
use Rattle.cl_explain.proofs.laws.late_tasks_have_no_response.Goals as goal

pub returns : goal.returns
returns c = safe_acceptance
