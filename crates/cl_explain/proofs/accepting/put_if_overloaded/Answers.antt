use Rattle.std.proofs.Common.{◌≡◌, ℕ, List, [], ◌++◌, cond, Bool, sym, ap, ◌∙◌, subst, codes}
use Rattle.std.specs.Prelude.{OnOk}
use Rattle.cl_text.specs.Line.{line}
use Rattle.cl_model.specs.{declared.model.CoreDef.CoreDef, ByNumber.core_at}
use Rattle.cl_explain.proofs.accepting.put_if_overloaded.Goals as goal

pub returns-then-is_overloaded : goal.returns-then-is_overloaded
returns-then-is_overloaded c =
    let said = line (codes "overloaded " ++ (core_at c.args.model.now c.args.core).name) in
    subst (λ (part : List ℕ). OnOk c.put_named.result (c.put_named.new.text ≡ c.args.text.now ++ part))
    (ap (λ (core : CoreDef). line (codes "overloaded " ++ core.name)) c.core.ensures.core
    ∙ ap (λ (b : Bool). cond b said []) (sym c.if-is_overloaded.true ∙ c.is_overloaded.ensures))
    c.put_named.ensures
