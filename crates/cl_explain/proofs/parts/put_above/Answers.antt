use Rattle.std.proofs.Common.{◌≡◌, List, ◌++◌, ℕ, sym, ◌∙◌, subst}
use Rattle.std.specs.Prelude.{OnOk}
use Rattle.cl_explain.proofs.TasksByNumber.{taken_is}
use Rattle.cl_explain.proofs.parts.put_above.Goals as goal

pub returns : goal.returns
returns c =
    subst (λ (part : List ℕ). OnOk c.put_taken.result (c.put_taken.new.text ≡ c.args.text.now ++ part))
    (taken_is c.args.model.now c.args.other c.requires.other c.args.task c.args.width c.jobs_above-jobs.result c.from.result c.from-2.result
    c.jobs_above-jobs.ensures c.from.ensures (c.from-2.ensures ∙ c.time_of.ensures) (sym c.is_above.ensures ∙ c.if-not-is_above.false))
    c.put_taken.ensures
