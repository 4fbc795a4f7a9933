use Rattle.std.proofs.Common.{◌≡◌, ℕ, List, ◌++◌, subst}
use Rattle.std.specs.Prelude.{OnOk}
use Rattle.cl_why.proofs.ShareLines.{window_is}
use Rattle.cl_why.proofs.shares.put_window.Goals as goal

pub returns : goal.returns
returns c =
    let window = c.args.window.now in
    subst (λ (words : List ℕ). OnOk c.put_window_line.result (c.put_window_line.new.text ≡ c.args.text.now ++ words))
    (window_is c.args.model.now window.task window.worst window.until c.over.result c.requires.ends c.over.ensures)
    c.put_window_line.ensures
