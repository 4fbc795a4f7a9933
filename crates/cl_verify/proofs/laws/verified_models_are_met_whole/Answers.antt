use Rattle.cl_verify.proofs.VerifyLaws.{verified_where_met}
use Rattle.cl_verify.proofs.laws.verified_models_are_met_whole.Goals as goal

pub returns : goal.returns
returns c = verified_where_met
