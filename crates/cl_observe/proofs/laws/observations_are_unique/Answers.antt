use Rattle.cl_observe.proofs.OneObservation.{one_observation}
use Rattle.cl_observe.proofs.laws.observations_are_unique.Goals as goal

pub returns : goal.returns
returns c = one_observation
