use Rattle.std.proofs.Common.{◌<◌, length, subst, arith}
use Rattle.std.proofs.Math.ListN.{length-map}
use Rattle.cl_model.specs.declared.chain.RequirementDef.{RequirementDef}
use Rattle.cl_top.specs.{declared.subject.What.What, Subject.names_asked}
use Rattle.cl_top.proofs.commands.why.why_of.Goals as goal

pub why_requirement-requires-clause-place : goal.why_requirement-requires-clause-place
why_requirement-requires-clause-place c =
    let model = c.args.model.now in
    let named = subst (λ (what : What). c.args.number < length (names_asked what model)) c.in-Requirement.is c.requires.number in
    omega (arith, named, length-map model.requirements (λ (requirement : RequirementDef). requirement.name))
