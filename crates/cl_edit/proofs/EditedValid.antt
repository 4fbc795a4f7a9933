-- What an edit in range makes of a valid model is valid.
use Rattle.std.proofs.Common.{◌≡◌, List, [], ◌∷◌, ◌++◌, refl, ap, subst}
use Rattle.std.specs.Prelude.{Result, Ok, Err}
use Rattle.cl_model.specs.{declared.{model.SystemModel.SystemModel, refusal.Refusal.Refusal}, Refusals.answer, Validity.{refusals_of, IsValid}}
use Rattle.cl_edit.specs.{declared.edit.Edit.{Edit, TheVariants.Report}, Changing.change_of, Edited.{edit_checks, with_edit, edited}, Ranges.IsEditInRange}
use Rattle.cl_edit.proofs.{CheckedEdits.made_where_passes, RangeFacts.edits_keep_range}

-- the model that is answered, or this one
abbrev model_or : SystemModel → Result SystemModel Refusal → SystemModel
model_or other (Ok model) = model
model_or other (Err refusal) = other

-- where a model is answered, nothing is refused, and it is the meaning
none_of_answer : (meaning model : SystemModel) (refusals : List Refusal) → answer refusals meaning ≡ Ok model → (refusals ≡ []) × (meaning ≡ model)
none_of_answer meaning model [] is = (refl, ap (model_or meaning) is)
none_of_answer meaning model (refusal ∷ refusals) is = absurd cc

pub first_none : {X : Type 0} (xs ys : List X) → xs ++ ys ≡ [] → (xs ≡ []) × (ys ≡ [])
first_none [] ys none = (refl, none)
first_none (x ∷ xs) ys none = absurd cc

pub edited_valid : (model : SystemModel) (edit : Edit) (changed : SystemModel) → IsValid model → IsEditInRange edit → edited model edit ≡ Ok changed → IsValid changed
unfolding edited
edited_valid model edit changed valid in_range is =
    let answered = none_of_answer (with_edit model edit) changed (edit_checks model edit ++ refusals_of (with_edit model edit)) is in
    let none = first_none (edit_checks model edit) (refusals_of (with_edit model edit)) answered.0 in
    subst IsValid answered.1 (record { in_range = edits_keep_range model edit valid.in_range in_range none.0; accepted = none.1 })

-- an edit that is made has made its change
pub made_is : (model : SystemModel) (edit : Edit) (changed : SystemModel) → edited model edit ≡ Ok changed → with_edit model edit ≡ changed
unfolding edited
made_is model edit changed is = (none_of_answer (with_edit model edit) changed (edit_checks model edit ++ refusals_of (with_edit model edit)) is).1

-- where no check refuses an edit, the changed model is valid
pub valid_unless : (model : SystemModel) (edit : Edit) → IsValid model → IsEditInRange edit → edit_checks model edit ++ refusals_of (with_edit model edit) ≡ [] → IsValid (with_edit model edit)
valid_unless model edit valid in_range none = edited_valid model edit (with_edit model edit) valid in_range (made_where_passes model edit none)

-- a report keeps a valid model
pub report_keeps : (model : SystemModel) → IsValid model → edited model Report ≡ Ok model
unfolding edited edit_checks with_edit change_of
report_keeps model valid = ap (λ refusals. answer refusals model) valid.accepted
