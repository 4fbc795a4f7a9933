use Rattle.std.proofs.Common.{◌≡◌, List, [], ◌++◌, ℕ, cond, Bool, sym, ap, ◌∙◌, subst}
use Rattle.std.specs.Prelude.{OnOk}
use Rattle.cl_designs.specs.Margins.{unmet_requirement}
use Rattle.cl_designs.proofs.margins.put_if_unmet.Goals as goal

pub returns-else-is_met_requirement : goal.returns-else-is_met_requirement
returns-else-is_met_requirement c =
    subst (λ (part : List ℕ). OnOk c.put_unmet_requirement.result (c.put_unmet_requirement.new.text ≡ c.args.text.now ++ part))
    (ap (λ (b : Bool). cond b [] (unmet_requirement c.args.model.now c.args.requirement)) (sym c.if-is_met_requirement.false ∙ c.is_met_requirement.ensures))
    c.put_unmet_requirement.ensures
