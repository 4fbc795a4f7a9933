use Rattle.std.proofs.Common.{refl}
use Rattle.cl_picture.specs.declared.axis.TheConstants.{STEPS}
use Rattle.cl_picture.proofs.Rising.{each_less}
use Rattle.cl_picture.proofs.laws.steps_are_round_numbers.Goals as goal

pub returns-clause-rise : goal.returns-clause-rise
returns-clause-rise c = each_less STEPS refl
