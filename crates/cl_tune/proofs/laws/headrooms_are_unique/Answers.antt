use Rattle.cl_tune.proofs.OneHeadroom.{some_headroom, one_headroom}
use Rattle.cl_tune.proofs.laws.headrooms_are_unique.Goals as goal

pub returns-clause-some : goal.returns-clause-some
returns-clause-some c = some_headroom

pub returns-clause-one : goal.returns-clause-one
returns-clause-one c = one_headroom
