use Rattle.cl_lists.proofs.FirstChecks.{made_unless_refused}
use Rattle.cl_lists.proofs.laws.refusals_are_of_the_model.Goals as goal

pub returns : goal.returns
returns c = made_unless_refused
