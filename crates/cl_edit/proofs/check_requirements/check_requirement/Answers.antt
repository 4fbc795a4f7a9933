use Rattle.cl_edit.proofs.{FewAnswers.passes_as, RequirementLaws.requirement_set}
use Rattle.cl_edit.proofs.check_requirements.check_requirement.Goals as goal

pub returns : goal.returns
returns c = passes_as c.check_chain.result _ _ (requirement_set c.args.model.now c.requires.valid c.args.i c.args.to.now c.requires.number c.requires.name) c.check_chain.ensures
