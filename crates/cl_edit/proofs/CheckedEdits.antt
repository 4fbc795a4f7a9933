-- What the checks of an edit and of the changed model say of the edited model.
use Rattle.std.proofs.Common.{◌≡◌, List, [], ◌∷◌, ◌++◌, ap}
use Rattle.std.specs.Prelude.{Some, Ok, Err}
use Rattle.cl_model.specs.{declared.{model.SystemModel.SystemModel, model_fault.ModelFault.{ModelFault, TheVariants.{Refused, NoMemory}}, refusal.Refusal.Refusal}, Answers.{IsFaultOf, Gives}, Refusals.{first, answer}, Validity.refusals_of}
use Rattle.cl_edit.specs.{declared.edit.Edit.Edit, Edited.{edit_checks, with_edit, edited}}

refused_where_first : (checks : List Refusal) (meaning : SystemModel) (refusal : Refusal) → first checks ≡ Some refusal → answer checks meaning ≡ Err refusal
refused_where_first [] meaning refusal is = absurd cc
refused_where_first (other ∷ checks) meaning refusal is = cc

module _ (model : SystemModel) (edit : Edit) where
  -- the checks of the edit, and those of the changed model
  abbrev pub checks_of_edit : List Refusal
  checks_of_edit = edit_checks model edit ++ refusals_of (with_edit model edit)

  pub made_where_passes : checks_of_edit ≡ [] → edited model edit ≡ Ok (with_edit model edit)
  unfolding edited
  made_where_passes none = ap (λ checks. answer checks (with_edit model edit)) none

  pub refused_where_fault : (refusal : Refusal) → IsFaultOf checks_of_edit (Refused refusal) → edited model edit ≡ Err refusal
  unfolding edited
  refused_where_fault refusal is = refused_where_first checks_of_edit (with_edit model edit) refusal is

  pub gives_where_fault : (fault : ModelFault) → IsFaultOf checks_of_edit fault → Gives (Err fault) (edited model edit)
  gives_where_fault (Refused refusal) is = refused_where_fault refusal is
  gives_where_fault NoMemory is = is
