use Rattle.cl_model.proofs.KeptLookUps.{kind_stands}
use Rattle.cl_model.proofs.valid_model.ValidModel.with_kind.Goals as goal

pub invariant_of-result : goal.invariant_of-result
invariant_of-result c = rw c.set_kind.ensures (kind_stands c.self.inside c.self.invariant c.args.stimulus c.args.kind (rw (← c.self.view_is) at c.requires.valid))
