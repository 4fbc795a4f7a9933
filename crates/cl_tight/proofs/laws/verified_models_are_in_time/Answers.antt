use Rattle.cl_tight.proofs.TightLaws.{verified_in_time}
use Rattle.cl_tight.proofs.laws.verified_models_are_in_time.Goals as goal

pub returns : goal.returns
returns c = verified_in_time
