use Rattle.cl_edit.proofs.TaskSetters.{range_needs_few}
use Rattle.cl_edit.proofs.laws.few_checks.ranges_need_one_check.Goals as goal

pub returns : goal.returns
returns c model step least greatest valid is = range_needs_few model valid step is least greatest
