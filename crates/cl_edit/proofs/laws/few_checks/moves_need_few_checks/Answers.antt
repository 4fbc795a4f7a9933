use Rattle.cl_edit.proofs.PlaceLaws.{move_needs_few}
use Rattle.cl_edit.proofs.laws.few_checks.moves_need_few_checks.Goals as goal

pub returns : goal.returns
returns c model i core priority valid = move_needs_few model valid i core priority
