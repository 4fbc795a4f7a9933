use Rattle.std.proofs.Common.{◌∙◌}
use Rattle.std.proofs.lemmas.Result.{IfOk-weaker}
use Rattle.cl_chain.proofs.{TailFacts.reads_looked_up, MeasuredFacts.rows_of_forward}
use Rattle.cl_chain.proofs.measuring.forward_rows.Goals as goal

pub returns : goal.returns
returns c = IfOk-weaker c.rows_of.result _ _
    (λ rows are. rows_of_forward c.args.groups.now _ (reads_looked_up c.args.groups.now 0 c.requires.some _ _ c.as_slice.ensures)
    _ c.in_ok-ends.ensures _ _ (c.as_slice-2.ensures ∙ c.in_ok-starts.ensures) c.as_slice-3.ensures rows are) c.rows_of.ensures
