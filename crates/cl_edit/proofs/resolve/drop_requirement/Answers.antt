use Rattle.std.proofs.Common.{ap}
use Rattle.cl_model.specs.Named.{requirement_names}
use Rattle.cl_edit.specs.declared.change.Change.TheVariants as changes
use Rattle.cl_edit.proofs.FoundFacts.{number_answers, missing_answers}
use Rattle.cl_edit.proofs.resolve.drop_requirement.Goals as goal

pub returns-in-Some : goal.returns-in-Some
returns-in-Some c =
    let found = number_answers c.args.requirement.now (requirement_names c.args.model.now) c.in-Some.requirement c.in-Some.ensures.number in
    (found.0, ap changes.DropRequirement found.1)

pub returns-in-None : goal.returns-in-None
returns-in-None c = missing_answers c.args.requirement.now (requirement_names c.args.model.now) c.not_found.result c.in-None.ensures.number c.not_found.ensures
