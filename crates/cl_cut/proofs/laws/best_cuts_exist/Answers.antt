use Rattle.cl_cut.proofs.SomeCut.{best_exists}
use Rattle.cl_cut.proofs.laws.best_cuts_exist.Goals as goal

pub returns : goal.returns
returns c = best_exists
