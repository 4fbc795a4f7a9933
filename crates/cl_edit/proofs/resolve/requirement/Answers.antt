use Rattle.cl_edit.proofs.FoundPriorities.{requirement_there, requirement_missing}
use Rattle.cl_edit.proofs.resolve.requirement.Goals as goal

pub returns-in-Some : goal.returns-in-Some
returns-in-Some c = requirement_there c.args.model.now c.args.requirement.now c.in_ok-to.to c.in_ok-to.ensures c.in-Some.requirement c.in-Some.ensures.number

pub returns-in-None : goal.returns-in-None
returns-in-None c = requirement_missing c.args.model.now c.args.requirement.now c.in_ok-to.to c.in_ok-to.ensures c.new_requirement.result c.in-None.ensures.number c.new_requirement.ensures
