use Rattle.cl_advice.proofs.UnknownKeys.{unknown_is_found}
use Rattle.cl_advice.proofs.laws.unknown_keys_are_found.Goals as goal

pub returns : goal.returns
returns c = unknown_is_found
