use Rattle.cl_edit.proofs.KindLaws.{kind_needs_few}
use Rattle.cl_edit.proofs.laws.few_checks.kinds_need_few_checks.Goals as goal

pub returns : goal.returns
returns c model s kind valid lt = kind_needs_few model valid s kind lt
