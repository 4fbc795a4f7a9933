use Rattle.cl_model.proofs.KeptLookUps.{access_stands}
use Rattle.cl_model.proofs.valid_model.ValidModel.with_access.Goals as goal

pub invariant_of-result : goal.invariant_of-result
invariant_of-result c = rw c.set_access.ensures (access_stands c.self.inside c.self.invariant c.args.task c.args.access (rw (← c.self.view_is) at c.requires.valid))
