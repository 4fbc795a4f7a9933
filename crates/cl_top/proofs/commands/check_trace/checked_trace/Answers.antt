use Rattle.std.proofs.Common.{ℕ, ap, ◌∙◌, inr}
use Rattle.std.proofs.lemmas.Result.{IfOk-weaker}
use Rattle.std.specs.Prelude.{Err}
use Rattle.cl_traces.specs.BadTraceLines.{bad_trace_text}
use Rattle.cl_top.specs.{OfTrace.trace_refused, Commands.CheckFile.with_said}
use Rattle.cl_top.proofs.commands.check_trace.checked_trace.Goals as goal

pub returns-in-Err-BadLine : goal.returns-in-Err-BadLine
returns-in-Err-BadLine c = IfOk-weaker c.mended_line.result _ _ (λ outcome is. inr (record {
  number = c.in-Err-BadLine.line;
  bad = c.in-Err-BadLine.ensures.bad_line c.in-Err-BadLine.line (ap Err c.in-Err-BadLine.field-0-is);
  printed = is ∙ ap (λ (line : ℕ). with_said (trace_refused line) (bad_trace_text c.args.model.now c.args.text.now line)) c.in-Err-BadLine.line-is;
})) c.mended_line.ensures
