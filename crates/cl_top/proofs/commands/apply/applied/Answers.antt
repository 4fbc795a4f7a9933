use Rattle.std.proofs.Common.{ap, ◌∙◌, inl, inr}
use Rattle.std.proofs.lemmas.Result.{IfOk-weaker}
use Rattle.std.specs.Prelude.{Err}
use Rattle.cl_top.specs.Commands.{command_meaning, Apply.{all_written, refused_alone}, Edit.bad_line}
use Rattle.cl_top.proofs.{Applied.from_each, EditsAlike.listed_in_range}
use Rattle.cl_top.proofs.commands.apply.applied.Goals as goal

-- what is read of a list of edits is in range
pub apply_lines-requires : goal.apply_lines-requires
apply_lines-requires c = listed_in_range c.args.text.now c.in-Ok.lines c.in-Ok.ensures.lines

pub returns-in-Ok : goal.returns-in-Ok
unfolding command_meaning
returns-in-Ok c = IfOk-weaker c.apply_lines.result _ _ (λ outcome is. inl (record {
  listed = c.in-Ok.lines;
  are = c.in-Ok.ensures.lines;
  applied_to = from_each all_written refused_alone c.args.model c.in-Ok.lines outcome is;
})) c.apply_lines.ensures

pub returns-in-Err-BadLine : goal.returns-in-Err-BadLine
unfolding command_meaning
returns-in-Err-BadLine c = IfOk-weaker c.bad_line.result _ _ (λ outcome is. inr (record {
  number = c.in-Err-BadLine.line;
  bad = c.in-Err-BadLine.ensures.bad_line c.in-Err-BadLine.line (ap Err c.in-Err-BadLine.field-0-is);
  printed = is ∙ ap bad_line c.in-Err-BadLine.line-is;
})) c.bad_line.ensures
