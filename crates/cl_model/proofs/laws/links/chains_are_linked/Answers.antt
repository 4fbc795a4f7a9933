use Rattle.cl_model.proofs.Links.{chains_linked}
use Rattle.cl_model.proofs.laws.links.chains_are_linked.Goals as goal

pub returns : goal.returns
returns c = chains_linked
