use Rattle.std.proofs.Common.{ℕ, ap, ◌∙◌, inl, inr}
use Rattle.std.proofs.lemmas.Result.{IfOk-weaker}
use Rattle.std.specs.Prelude.{Err}
use Rattle.cl_model.specs.{declared.refusal.Code.TheVariants.E1, Place.top}
use Rattle.cl_top.specs.Commands.{command_meaning, Edit.edits_refused}
use Rattle.cl_top.proofs.{EditsAlike.listed_in_range, EditSteps.{few_of_text, few_of_none}}
use Rattle.cl_top.proofs.commands.edit.edited.Goals as goal

-- what is read of a list of edits is in range
pub write_edited-requires : goal.write_edited-requires
write_edited-requires g c = listed_in_range c.args.text.now c.in-Ok.lines c.in-Ok.ensures.lines

pub returns-in-Ok-clause-outcome : goal.returns-in-Ok-clause-outcome
unfolding command_meaning
returns-in-Ok-clause-outcome g c = IfOk-weaker c.write_edited.result _ _
    (λ outcome is. inl (record { listed = c.in-Ok.lines; are = c.in-Ok.ensures.lines; edited_to = is })) c.write_edited.ensures.outcome

pub returns-in-Ok-clause-steps : goal.returns-in-Ok-clause-steps
unfolding command_meaning
returns-in-Ok-clause-steps g c =
    few_of_text c.args.model c.args.text.now c.in-Ok.lines c.args.steps.now c.write_edited.new.steps c.in-Ok.ensures.lines c.write_edited.ensures.steps

pub returns-in-Err-BadLine-clause-outcome : goal.returns-in-Err-BadLine-clause-outcome
unfolding command_meaning
returns-in-Err-BadLine-clause-outcome g c = IfOk-weaker c.bad_line.result _ _ (λ outcome is. inr (record {
  number = c.in-Err-BadLine.line;
  bad = c.in-Err-BadLine.ensures.bad_line c.in-Err-BadLine.line (ap Err c.in-Err-BadLine.field-0-is);
  printed = is ∙ ap (λ (number : ℕ). edits_refused number (record { code = E1; place = top })) c.in-Err-BadLine.line-is;
})) c.bad_line.ensures

pub returns-in-Err-BadLine-clause-steps : goal.returns-in-Err-BadLine-clause-steps
unfolding command_meaning
returns-in-Err-BadLine-clause-steps g c = few_of_none c.args.model c.args.text.now c.args.steps.now

pub returns-clause-steps : goal.returns-clause-steps
unfolding command_meaning
returns-clause-steps g c = few_of_none c.args.model c.args.text.now c.args.steps.now
