-- A report changes nothing.
use Rattle.std.proofs.Common.{◌≡◌, sym, subst, Ok}
use Rattle.cl_model.specs.{declared.model.SystemModel.SystemModel, Validity.IsValid}
use Rattle.cl_edit.specs.{declared.edit.Edit.{Edit, TheVariants.Report}, Edited.edited}
use Rattle.cl_edit.proofs.EditedValid.{report_keeps}

pub same_model : (model : SystemModel) (edit : Edit) → IsValid model → edit ≡ Report → edited model edit ≡ Ok model
same_model model edit valid is = subst (λ e. edited model e ≡ Ok model) (sym is) (report_keeps model valid)
