use Rattle.std.proofs.Common.{ℕ, ◌++◌, ap, ◌∙◌}
use Rattle.std.specs.Prelude.{codes, decimal}
use Rattle.std.proofs.lemmas.Result.{on_ok_weaker}
use Rattle.cl_text.specs.Line.{line}
use Rattle.cl_advice.specs.Measured.{jitter_line}
use Rattle.cl_advice.proofs.measured.put_jitter.Goals as goal

pub returns : goal.returns
unfolding jitter_line
returns c =
    on_ok_weaker c.put_named.result (λ put.
    put ∙ ap (λ (n : ℕ). c.args.text.now ++ line (codes "wanted a jitter below " ++ decimal n ++ codes ", the deadline of " ++ c.args.task.now.name))
    c.deadline_under-deadline.ensures) c.put_named.ensures
