use Rattle.std.proofs.Common.{◌≡◌, ◌++◌, Option, sym, ap, ◌∙◌, subst}
use Rattle.std.specs.Prelude.{OnOk, IfSome}
use Rattle.std.proofs.lemmas.List.{append-nil}
use Rattle.cl_margin.specs.declared.answer.Breaks.{Breaks}
use Rattle.cl_designs.specs.Margins.{IsBreakOf, breaks_words}
use Rattle.cl_designs.proofs.margins.put_then.Goals as goal

pub returns-in-None : goal.returns-in-None
returns-in-None c = sym (append-nil c.args.text.now) ∙ ap (λ (breaks : Option Breaks). c.args.text.now ++ breaks_words c.args.model.now breaks) (sym c.in-None.is)

pub put_breaks-requires : goal.put_breaks-requires
put_breaks-requires c = subst (λ (breaks : Option Breaks). IfSome breaks (IsBreakOf c.args.model.now)) c.in-Some.is c.requires

pub returns-in-Some : goal.returns-in-Some
returns-in-Some c =
    subst (λ (breaks : Option Breaks). OnOk c.put_breaks.result (c.put_breaks.new.text ≡ c.args.text.now ++ breaks_words c.args.model.now breaks))
    (sym c.in-Some.is) c.put_breaks.ensures
