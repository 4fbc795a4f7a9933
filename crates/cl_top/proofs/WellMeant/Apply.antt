-- `apply`: the model after all edits.
use Rattle.std.proofs.Common.{◌≡◌, ℕ, inl, inr, List, length, Ok, refl, ap, ◌∙◌, arith}
use Rattle.std.proofs.lemmas.List.{take_all}
use Rattle.cl_model.specs.{declared.model.SystemModel.SystemModel, AreNamed.AreNamed, Validity.IsValid}
use Rattle.cl_edit.specs.{declared.{edit.Edit.Edit, edit_lines.ListedEdit.ListedEdit}, Edited.after, Reading.{edits_of, AreEditsOf}}
use Rattle.cl_write.proofs.SomeTexts.{some_text}
use Rattle.cl_engine.specs.declared.files.Files.TheVariants as files
use Rattle.cl_engine.specs.{declared.{files.TheConstants.FILE_LIMIT, outcome.Outcome.Outcome, status.TheConstants.DONE}, Language.IsOfContent}
use Rattle.cl_top.specs.{Commands.{Apply.{all_written, refused_alone, IsOfApply, HoldsEdited, applying}, Edit.{edits_refused, bad_line}}, OfEdits.line_at, Meaning.{takes_no_step, promises_of_both, WritesTheSame}}
use Rattle.cl_top.proofs.{Applied.{some_applied, applied_alike}, WellMeant.Edit.seven_content, EditsAlike.listed_in_range, Meanings.{IsMeantWell, both_well}, EditPieces.valid_after}

status_of : (found other : Outcome) → found ≡ other → found.status ≡ other.status
status_of found other is = ap (λ (o : Outcome). o.status) is

-- a model, and a refusal of an edit, are of content
apply_content : (model : SystemModel) (text : List ℕ) (found : Outcome) → IsOfApply model text found → IsOfContent found.status
apply_content model text found (inl has) = elim has.applied_to [
  | inl all ↦ inl all.outcome.status_is
  | inr refused ↦ seven_content found (status_of found _ refused.printed)
]
apply_content model text found (inr bad) = seven_content found (status_of found _ bad.printed)

-- the model after all edits is valid
pub all_valid : (model : SystemModel) → IsValid model → (text : List ℕ) (listed : List ListedEdit) → AreEditsOf text listed
    → (made : SystemModel) → after model (edits_of listed) ≡ Ok made → IsValid made
all_valid model valid text listed are made applied =
    let edits : List Edit = edits_of listed in
    valid_after edits (length edits) model made valid (listed_in_range text listed are) (ap (after model) (take_all (length edits) edits (omega arith)) ∙ applied)

-- the text is read as the model after all edits, where none is refused
holds_edited : (model : SystemModel) → IsValid model → (text : List ℕ) (found : Outcome) → IsOfApply model text found → found.status ≡ DONE → HoldsEdited model text found.text
holds_edited model valid text found (inl has) done = elim has.applied_to [
  | inl all ↦ record {
    listed = has.listed;
    are = has.are;
    made = all.made;
    applied = all.applied;
    valid = all_valid model valid text has.listed has.are all.made all.applied;
    is_text = all.outcome.text_is;
  }
  | inr refused ↦ absurd (omega (arith, done, status_of found (edits_refused (line_at has.listed refused.count) refused.refusal) refused.printed))
]
holds_edited model valid text found (inr bad) done =
    absurd (omega (arith, done, status_of found (bad_line bad.number) bad.printed))

written_some : (made : SystemModel) → IsValid made → AreNamed made → (found : Outcome) × all_written made found
written_some made valid named = let text = some_text made valid.in_range named in (record { status = DONE; text = text.0 }, record { status_is = refl; text_is = text.1 })

pub applying_well : IsMeantWell (files.ModelAnd FILE_LIMIT) applying (Unit {0})
applying_well = both_well takes_no_step (promises_of_both HoldsEdited) WritesTheSame (Unit {0}) (λ one other is. inl is) FILE_LIMIT IsOfApply
    (λ model valid named text. some_applied all_written refused_alone bad_line written_some model valid named text)
    (λ model valid named text one other first second. applied_alike all_written refused_alone bad_line WritesTheSame (λ model one other h k. inr (model, h, k)) (λ one other is. inl is)
    model valid named text one other first second) apply_content (λ model text steps. omega arith) holds_edited
