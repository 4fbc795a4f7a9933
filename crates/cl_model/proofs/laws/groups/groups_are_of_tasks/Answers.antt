use Rattle.cl_model.proofs.GroupFacts.{groups_at_are, groups_at_some}
use Rattle.cl_model.proofs.laws.groups.groups_are_of_tasks.Goals as goal

pub returns-clause-within : goal.returns-clause-within
returns-clause-within c = groups_at_are

pub returns-clause-some : goal.returns-clause-some
returns-clause-some c = groups_at_some
