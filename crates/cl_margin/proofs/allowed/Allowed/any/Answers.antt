use Rattle.std.proofs.Common.{refl}
use Rattle.cl_margin.specs.Inner.Allowing.{any_allowed}
use Rattle.cl_margin.proofs.allowed.Allowed.any.Goals as goal

pub returns : goal.returns
unfolding any_allowed
returns c = refl
