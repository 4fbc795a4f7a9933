use Rattle.cl_edit.proofs.PlaceLaws.{priorities_need_these}
use Rattle.cl_edit.proofs.laws.few_checks.priorities_need_few_checks.Goals as goal

pub returns : goal.returns
returns c model priorities valid _ = priorities_need_these model valid priorities
