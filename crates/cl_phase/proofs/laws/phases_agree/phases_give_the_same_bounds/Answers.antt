use Rattle.cl_phase.proofs.KeptWalks.{phases_agree}
use Rattle.cl_phase.proofs.laws.phases_agree.phases_give_the_same_bounds.Goals as goal

pub returns : goal.returns
returns c = phases_agree
