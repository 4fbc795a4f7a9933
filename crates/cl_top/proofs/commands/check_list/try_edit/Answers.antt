use Rattle.std.proofs.Common.{◌≡◌, sym, ap, ◌∙◌, subst, Ok, Err}
use Rattle.std.specs.Prelude.{Some}
use Rattle.cl_model.specs.{declared.model_fault.ModelFault.ModelFault, Answers.MatchFault, Refusals.first}
use Rattle.cl_edit.specs.{Changing.with_change, Edited.{edited, with_edit}}
use Rattle.cl_edit.proofs.CheckedEdits.{checks_of_edit, made_where_passes, refused_where_fault}
use Rattle.cl_top.proofs.commands.check_list.try_edit.Goals as goal

-- the refusal that the checks find
refused_by : (c : goal.In-Err-Refused) → edited c.args.model.now c.args.listed.now.edit ≡ Err c.in-Err-Refused.refusal
refused_by c =
    refused_where_fault c.args.model.now c.args.listed.now.edit c.in-Err-Refused.refusal
    (subst (λ (fault : ModelFault). MatchFault fault (λ refusal. first (checks_of_edit c.args.model.now c.args.listed.now.edit) ≡ Some refusal))
    c.in-Err-Refused.field-0-is c.in-Err-Refused.ensures.change)

pub mended_edit-requires-clause-refused : goal.mended_edit-requires-clause-refused
mended_edit-requires-clause-refused c = refused_by c

pub returns-in-Ok : goal.returns-in-Ok
unfolding with_edit
returns-in-Ok c =
    let known = c.in-Ok.ensures.change in (
      c.in-Ok.ensures.may_be_made,
      made_where_passes c.args.model.now c.args.listed.now.edit known.0 ∙ ap Ok (sym (ap (with_change c.args.model.now) known.1)),
    )

pub returns-in_ok-outcome-in-Err-Refused : goal.returns-in_ok-outcome-in-Err-Refused
returns-in_ok-outcome-in-Err-Refused c = (
  c.in-Err-Refused.refusal,
  refused_where_fault c.args.model.now c.args.listed.now.edit c.in-Err-Refused.refusal
      (subst (λ (fault : ModelFault). MatchFault fault (λ refusal. first (checks_of_edit c.args.model.now c.args.listed.now.edit) ≡ Some refusal))
      c.in-Err-Refused.field-0-is c.in-Err-Refused.ensures.change),
  c.in_ok-outcome-in-Err-Refused.ensures,
)
