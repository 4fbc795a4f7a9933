use Rattle.cl_edit.proofs.TaskSetters.{whole_needs_none}
use Rattle.cl_edit.proofs.laws.few_checks.whole_runnables_need_no_check.Goals as goal

pub returns : goal.returns
returns c model step whole valid is = whole_needs_none model valid step is whole
