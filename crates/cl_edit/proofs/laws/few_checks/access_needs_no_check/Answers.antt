use Rattle.cl_edit.proofs.TaskSetters.{access_needs_none}
use Rattle.cl_edit.proofs.laws.few_checks.access_needs_no_check.Goals as goal

pub returns : goal.returns
returns c model i access valid lt = access_needs_none model valid i lt access
