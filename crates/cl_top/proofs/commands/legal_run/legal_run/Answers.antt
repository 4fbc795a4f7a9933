use Rattle.std.proofs.Common.{ap, ◌∙◌, inr}
use Rattle.std.proofs.lemmas.Result.{IfOk-weaker}
use Rattle.std.specs.Prelude.{Err}
use Rattle.cl_top.specs.OfTrace.{trace_refused}
use Rattle.cl_top.proofs.OfTrace.{checked_traced}
use Rattle.cl_top.proofs.commands.legal_run.legal_run.Goals as goal

pub returns-in-Ok : goal.returns-in-Ok
returns-in-Ok c = IfOk-weaker c.checked_run.result _ _ (λ given is. checked_traced c.args.model.now c.args.text.now c.in-Ok.run' c.in-Ok.ensures.run given is) c.checked_run.ensures

pub returns-in_ok-refused-in-Err-BadLine : goal.returns-in_ok-refused-in-Err-BadLine
returns-in_ok-refused-in-Err-BadLine c = inr (record {
  number = c.in-Err-BadLine.line;
  bad = c.in-Err-BadLine.ensures.bad_line c.in-Err-BadLine.line (ap Err c.in-Err-BadLine.field-0-is);
  printed = c.in_ok-refused-in-Err-BadLine.ensures ∙ ap trace_refused c.in-Err-BadLine.line-is;
})
