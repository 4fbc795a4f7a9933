use Rattle.cl_model.proofs.KeptLookUps.{priorities_stand}
use Rattle.cl_model.proofs.valid_model.ValidModel.with_priorities.Goals as goal

pub invariant_of-result : goal.invariant_of-result
invariant_of-result c = rw c.set_priorities.ensures (priorities_stand c.self.inside c.self.invariant c.args.priorities.now (rw (← c.self.view_is) at c.requires.valid))
