use Rattle.cl_observe.proofs.SomeObservation.{some_observation}
use Rattle.cl_observe.proofs.laws.runs_have_observations.Goals as goal

pub returns : goal.returns
returns c = some_observation
