use Rattle.std.proofs.Common.{ℕ, ◌++◌, ap, ◌∙◌}
use Rattle.std.specs.Prelude.{codes, decimal}
use Rattle.std.proofs.lemmas.Result.{on_ok_weaker}
use Rattle.cl_text.specs.Line.{line}
use Rattle.cl_advice.specs.Measured.{deadline_line}
use Rattle.cl_advice.proofs.measured.put_deadline.Goals as goal

pub returns : goal.returns
unfolding deadline_line
returns c =
    on_ok_weaker c.put_named.result (λ put.
    put ∙ ap (λ (n : ℕ). c.args.text.now ++ line (codes "wanted at most " ++ decimal n ++ codes ", the least distance of " ++ c.args.task.now.stimulus))
    c.least_distance-least.ensures) c.put_named.ensures
