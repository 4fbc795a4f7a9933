use Rattle.cl_model.proofs.KeptLookUps.{deadline_stands}
use Rattle.cl_model.proofs.valid_model.ValidModel.with_deadline.Goals as goal

pub invariant_of-result : goal.invariant_of-result
invariant_of-result c = rw c.set_deadline.ensures (deadline_stands c.self.inside c.self.invariant c.args.task c.args.deadline (rw (← c.self.view_is) at c.requires.valid))
