use Rattle.std.proofs.Common.{◌-◌, ◌<◌, length, arith}
use Rattle.std.proofs.lemmas.Result.{IfOk-weaker}
use Rattle.cl_chain.proofs.{TailFacts.writes_looked_up, MeasuredFacts.rows_of_ages}
use Rattle.cl_chain.proofs.measuring.age_rows.Goals as goal

pub returns : goal.returns
returns c =
    let last : length c.args.groups.now - 1 < length c.args.groups.now = omega (arith, c.requires.ordered.some) in
    IfOk-weaker c.rows_of.result _ _
    (λ rows are. rows_of_ages c.args.groups.now c.requires.ordered.some c.args.starts.now c.requires.heads _ (writes_looked_up c.args.groups.now _ last _ _ c.as_slice.ensures)
    _ c.in_ok-ends.ensures _ c.as_slice-2.ensures rows are) c.rows_of.ensures
