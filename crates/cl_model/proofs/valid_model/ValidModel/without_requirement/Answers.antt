use Rattle.cl_model.proofs.ChangedRequirements.{requirement_dropped}
use Rattle.cl_model.proofs.valid_model.ValidModel.without_requirement.Goals as goal

pub invariant_of-result : goal.invariant_of-result
invariant_of-result c =
    rw c.drop_requirement.ensures (requirement_dropped c.self.inside c.self.invariant c.args.requirement (rw (← c.self.view_is) at c.requires.valid) _ c.remove.ensures)
