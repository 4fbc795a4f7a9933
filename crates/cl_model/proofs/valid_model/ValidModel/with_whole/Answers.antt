use Rattle.cl_model.proofs.KeptLookUps.{whole_stands}
use Rattle.cl_model.proofs.valid_model.ValidModel.with_whole.Goals as goal

pub invariant_of-result : goal.invariant_of-result
invariant_of-result c = rw c.set_whole.ensures (whole_stands c.self.inside c.self.invariant c.args.step c.args.whole (rw (← c.self.view_is) at c.requires.step) (rw (← c.self.view_is) at c.requires.valid))
