-- What the checks of an edit say of the edited model.
use Rattle.std.proofs.Common.{◌≡◌, ℕ, ap, ◌∙◌, subst, sym}
use Rattle.std.specs.Prelude.{Result, Ok, Err, IfOk, IfErr}
use Rattle.cl_model.specs.{declared.{model.SystemModel.SystemModel, model_fault.ModelFault.{ModelFault, TheVariants.Refused}, refusal.Refusal.Refusal}, Answers.{IsFaultOf, Answers}}
use Rattle.cl_edit.specs.{declared.{change.Change.Change, edit.Edit.Edit}, Changing.{with_change, change_of}, Edited.{with_edit, edited}}
use Rattle.cl_edit.proofs.{CheckedEdits.{checks_of_edit, made_where_passes, refused_where_fault}, EditedValid.made_is}
use Rattle.cl_incr.specs.Changed.{AsksForChanges}

module _ (model : SystemModel) (edit : Edit) where
  pub made_where_ok : (result : Result Change ModelFault) → Answers result (checks_of_edit model edit) (change_of model edit)
      → IfOk result (λ change. edited model edit ≡ Ok (with_change model change))
  unfolding with_edit
  made_where_ok (Ok change) passes = made_where_passes model edit passes.0 ∙ ap (λ (c : Change). Ok (with_change model c)) (sym passes.1)
  made_where_ok (Err fault) passes = tt

  pub refused_where_err : (result : Result Change ModelFault) → Answers result (checks_of_edit model edit) (change_of model edit)
      → IfErr result (λ fault. (refusal : Refusal) → fault ≡ Refused refusal → edited model edit ≡ Err refusal)
  refused_where_err (Ok change) passes = tt
  refused_where_err (Err fault) passes = λ refusal is. refused_where_fault model edit refusal (subst (IsFaultOf (checks_of_edit model edit)) is passes)

  -- the steps that ask for the changes of one edited model ask for those of the other, which is the same
  pub asks_changed : (made changed : SystemModel) (before after : ℕ) → edited model edit ≡ Ok made → edited model edit ≡ Ok changed
      → AsksForChanges model made before after → AsksForChanges model changed before after
  asks_changed made changed before after is also =
      subst (λ (m : SystemModel). AsksForChanges model m before after)
      (sym (made_is model edit made is) ∙ made_is model edit changed also)
