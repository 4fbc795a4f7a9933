use Rattle.cl_edit.proofs.TaskSetters.{deadline_needs_few}
use Rattle.cl_edit.proofs.laws.few_checks.deadlines_need_few_checks.Goals as goal

pub returns : goal.returns
returns c model i deadline valid lt = deadline_needs_few model valid i lt deadline
