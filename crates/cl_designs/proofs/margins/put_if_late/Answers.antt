use Rattle.std.proofs.Common.{◌≡◌, List, [], ◌++◌, ℕ, cond, Bool, sym, ap, ◌∙◌, subst}
use Rattle.std.specs.Prelude.{OnOk}
use Rattle.cl_designs.specs.Margins.{late_task}
use Rattle.cl_designs.proofs.margins.put_if_late.Goals as goal

pub returns-else-is_met_task : goal.returns-else-is_met_task
returns-else-is_met_task c =
    subst (λ (part : List ℕ). OnOk c.put_late_task.result (c.put_late_task.new.text ≡ c.args.text.now ++ part))
    (ap (λ (b : Bool). cond b [] (late_task c.args.model.now c.args.task)) (sym c.if-is_met_task.false ∙ c.is_met_task.ensures))
    c.put_late_task.ensures
