use Rattle.std.proofs.Common.{◌≡◌, ◌++◌, sym, ap, subst, ◌∙◌}
use Rattle.std.specs.Prelude.{OnOk}
use Rattle.std.proofs.lemmas.List.{append-nil}
use Rattle.cl_analyse.specs.declared.findings.ChainAnswer.{ChainAnswer}
use Rattle.cl_explain.specs.Explanation.{tight_lines}
use Rattle.cl_explain.proofs.LateChains.{none_found_late, tight_where_none, tight_where_late}
use Rattle.cl_explain.proofs.tight.put_tight.Goals as goal

pub put_bounded-requires-clause-not_late : goal.put_bounded-requires-clause-not_late
put_bounded-requires-clause-not_late c = none_found_late c.args.model.now c.args.chain c.args.tight.now (sym c.first_late.ensures ∙ c.in-None.is)

pub returns-in-Some-clause-text : goal.returns-in-Some-clause-text
returns-in-Some-clause-text c =
    sym (append-nil c.args.text.now)
    ∙ ap (λ (answer : ChainAnswer). c.args.text.now ++ tight_lines c.args.model.now c.args.chain answer)
    (tight_where_late c.args.model.now c.args.chain c.in-Some.field-0 c.args.tight.now c.requires.answers (sym c.first_late.ensures ∙ c.in-Some.is))

pub returns-in-None-clause-text : goal.returns-in-None-clause-text
returns-in-None-clause-text c =
    subst (λ (answer : ChainAnswer). OnOk c.put_bounded.result (c.put_bounded.new.text ≡ c.args.text.now ++ tight_lines c.args.model.now c.args.chain answer))
    (tight_where_none c.args.model.now c.args.chain c.args.tight.now c.requires.answers (sym c.first_late.ensures ∙ c.in-None.is))
    c.put_bounded.ensures.text
