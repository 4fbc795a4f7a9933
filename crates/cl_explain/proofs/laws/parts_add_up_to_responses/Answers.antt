use Rattle.cl_explain.proofs.AddedUp.{settled_parts}
use Rattle.cl_explain.proofs.laws.parts_add_up_to_responses.Goals as goal

pub returns : goal.returns
returns c = λ model valid task response h is. settled_parts model valid task h response is
