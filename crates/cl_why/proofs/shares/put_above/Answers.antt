use Rattle.std.proofs.Common.{◌≡◌, ℕ, List, ◌++◌, sym, ◌∙◌, subst}
use Rattle.std.specs.Prelude.{OnOk}
use Rattle.cl_why.proofs.ShareLines.{above_is}
use Rattle.cl_why.proofs.shares.put_above.Goals as goal

pub returns : goal.returns
returns c =
    subst (λ (part : List ℕ). OnOk c.put_jobs.result (c.put_jobs.new.text ≡ c.args.text.now ++ part))
    (above_is c.args.model.now c.args.window.now.task c.args.window.now.worst c.args.other (sym c.is_above.ensures ∙ c.if-not-is_above.false))
    c.put_jobs.ensures
