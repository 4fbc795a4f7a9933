use Rattle.std.proofs.Common.{◌≡◌, ◌++◌, Option, Some, sym, subst}
use Rattle.std.specs.Prelude.{OnOk}
use Rattle.cl_model.specs.{declared.{model.SystemModel.SystemModel, model_fault.ModelFault.ModelFault}, Answers.IsFaultOf, Refusals.first}
use Rattle.cl_edit.specs.Edited.{edit_checks, with_edit}
use Rattle.cl_advice.specs.OfEdits.{edit_advice_text}
use Rattle.cl_lists.proofs.MadeModels.{made_where_none, none_where_refused}
use Rattle.cl_lists.proofs.refused_edit.put_by_model.Goals as goal

pub returns-in-Ok : goal.returns-in-Ok
returns-in-Ok c =
    let known = c.in-Ok.ensures.changed in
    subst (λ (it : Option SystemModel). OnOk c.put_edit_advice.result (c.put_edit_advice.new.text ≡ c.args.text.now ++ edit_advice_text it c.args.refusal))
    (sym (made_where_none (edit_checks c.args.model.now c.args.edit.now) (with_edit c.args.model.now c.args.edit.now) c.in-Ok.changed known.0 known.1))
    c.put_edit_advice.ensures

pub returns-in-Err-Refused : goal.returns-in-Err-Refused
returns-in-Err-Refused c =
    let model = c.args.model.now in
    let edit = c.args.edit.now in
    let refused : first (edit_checks model edit) ≡ Some c.in-Err-Refused.field-0-0 =
    subst (λ (fault : ModelFault). IsFaultOf (edit_checks model edit) fault) c.in-Err-Refused.field-0-is c.in-Err-Refused.ensures.changed in
    subst (λ (it : Option SystemModel). OnOk c.put_edit_advice-in-Err-Refused.result (c.put_edit_advice-in-Err-Refused.new.text ≡ c.args.text.now ++ edit_advice_text it c.args.refusal))
    (sym (none_where_refused (edit_checks model edit) (with_edit model edit) c.in-Err-Refused.field-0-0 refused))
    c.put_edit_advice-in-Err-Refused.ensures
