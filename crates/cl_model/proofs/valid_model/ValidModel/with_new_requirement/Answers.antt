use Rattle.cl_model.proofs.ChangedRequirements.{requirement_added}
use Rattle.cl_model.proofs.valid_model.ValidModel.with_new_requirement.Goals as goal

pub invariant_of-result : goal.invariant_of-result
invariant_of-result c =
    rw c.in_ok-push.ensures.ok (requirement_added c.self.inside c.self.invariant c.args.requirement (rw (← c.self.view_is) at c.requires) _ c.in_ok-_is_new.ensures.ok)
