use Rattle.cl_observe.proofs.Unmarked.{not_above, not_outside}
use Rattle.cl_observe.proofs.laws.what_lies_within_is_not_marked.Goals as goal

pub returns-clause-above : goal.returns-clause-above
returns-clause-above c = not_above

pub returns-clause-outside : goal.returns-clause-outside
returns-clause-outside c = not_outside
