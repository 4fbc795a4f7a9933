use Rattle.std.proofs.Common.{ap, ◌∙◌, inr}
use Rattle.std.proofs.lemmas.Result.{IfOk-weaker}
use Rattle.std.specs.Prelude.{Err}
use Rattle.cl_top.specs.{Commands.command_meaning, OfTrace.trace_refused}
use Rattle.cl_top.proofs.commands.observe.observed.Goals as goal

pub returns-in-Err-BadLine-clause-outcome : goal.returns-in-Err-BadLine-clause-outcome
unfolding command_meaning
returns-in-Err-BadLine-clause-outcome g c = IfOk-weaker c.refused.result _ _ (λ outcome is. inr (record {
  number = c.in-Err-BadLine.line;
  bad = c.in-Err-BadLine.ensures.bad_line c.in-Err-BadLine.line (ap Err c.in-Err-BadLine.field-0-is);
  printed = is ∙ ap trace_refused c.in-Err-BadLine.line-is;
})) c.refused.ensures
