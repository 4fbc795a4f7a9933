use Rattle.std.proofs.Common.{ap, ◌∙◌, inl, inr}
use Rattle.std.proofs.lemmas.Result.{IfOk-weaker}
use Rattle.std.specs.Prelude.{Err}
use Rattle.cl_top.specs.Commands.CheckFile.{all_accepted, edit_mended, line_mended}
use Rattle.cl_top.proofs.{Applied.from_each, EditsAlike.listed_in_range}
use Rattle.cl_top.proofs.commands.check_list.listed.Goals as goal

-- what is read of a list of edits is in range
pub try_lines-requires : goal.try_lines-requires
try_lines-requires c = listed_in_range c.args.text.now c.in-Ok.lines c.in-Ok.ensures.lines

pub returns-in-Ok : goal.returns-in-Ok
returns-in-Ok c = IfOk-weaker c.try_lines.result _ _ (λ outcome is. inl (record {
  listed = c.in-Ok.lines;
  are = c.in-Ok.ensures.lines;
  applied_to = from_each all_accepted (edit_mended c.args.text.now) c.args.model c.in-Ok.lines outcome is;
})) c.try_lines.ensures

pub returns-in-Err-BadLine : goal.returns-in-Err-BadLine
returns-in-Err-BadLine c = IfOk-weaker c.mended_line.result _ _ (λ outcome is. inr (record {
  number = c.in-Err-BadLine.line;
  bad = c.in-Err-BadLine.ensures.bad_line c.in-Err-BadLine.line (ap Err c.in-Err-BadLine.field-0-is);
  printed = is ∙ ap (line_mended c.args.version c.args.text.now) c.in-Err-BadLine.line-is;
})) c.mended_line.ensures
