use Rattle.cl_model.proofs.ChangedRequirements.{requirement_stands}
use Rattle.cl_model.proofs.valid_model.ValidModel.with_requirement.Goals as goal

pub invariant_of-result : goal.invariant_of-result
invariant_of-result c =
    rw c.set_requirement.ensures
    (requirement_stands c.self.inside c.self.invariant c.args.number c.args.requirement (rw (← c.self.view_is) at c.requires.name) (rw (← c.self.view_is) at c.requires.valid))
