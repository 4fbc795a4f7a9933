use Rattle.cl_tune.proofs.{ReorderedModels.all_in_time, KeptInTime.reordered_in_time}
use Rattle.cl_tune.proofs.laws.reordered_models_are_in_time.Goals as goal

pub returns-clause-timely : goal.returns-clause-timely
returns-clause-timely c = all_in_time

pub returns-clause-deadlines : goal.returns-clause-deadlines
returns-clause-deadlines c = reordered_in_time
