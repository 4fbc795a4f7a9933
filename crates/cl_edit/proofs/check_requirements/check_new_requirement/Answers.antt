use Rattle.std.proofs.Common.{ap, sym, ◌∙◌}
use Rattle.cl_model.specs.Validity.{requirement_check}
use Rattle.cl_edit.proofs.{FewAnswers.passes_as, RequirementLaws.requirement_added}
use Rattle.cl_edit.proofs.check_requirements.check_new_requirement.Goals as goal

pub returns : goal.returns
returns c =
    passes_as c.check_chain.result _ _
    (requirement_added c.args.model.now c.requires.valid c.args.requirement.now c.requires.new ∙ ap (λ i. requirement_check c.args.model.now i c.args.requirement.now) (sym c.requirements.ensures.count))
    c.check_chain.ensures
