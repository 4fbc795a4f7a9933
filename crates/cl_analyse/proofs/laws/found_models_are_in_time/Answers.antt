use Rattle.cl_analyse.proofs.InTime.{deadlines_met, in_time}
use Rattle.cl_analyse.proofs.laws.found_models_are_in_time.Goals as goal

pub returns-clause-deadlines : goal.returns-clause-deadlines
returns-clause-deadlines c = deadlines_met

pub returns-clause-all : goal.returns-clause-all
returns-clause-all c = in_time
