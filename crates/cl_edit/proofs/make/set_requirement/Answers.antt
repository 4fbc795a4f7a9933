use Rattle.std.proofs.Common.{sym, ap, ◌∙◌, subst}
use Rattle.cl_model.specs.{declared.chain.RequirementDef.RequirementDef, Changes.with_requirement, Validity.IsValid}
use Rattle.cl_edit.proofs.make.set_requirement.Goals as goal

pub with_requirement-requires-clause-number : goal.with_requirement-requires-clause-number
with_requirement-requires-clause-number c = c.requires.of_model.0

pub with_requirement-requires-clause-name : goal.with_requirement-requires-clause-name
with_requirement-requires-clause-name c = ap (λ (to : RequirementDef). to.name) c.in_ok-try_copy.ensures ∙ c.requires.of_model.1

pub with_requirement-requires-clause-valid : goal.with_requirement-requires-clause-valid
with_requirement-requires-clause-valid c =
    subst (λ (to : RequirementDef). IsValid (with_requirement c.args.model c.args.number to)) (sym c.in_ok-try_copy.ensures) c.requires.valid
