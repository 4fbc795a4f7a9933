-- `apply MODEL EDITS`: the model after all edits, as a file of the least version from 2 on that can say it.
use Rattle.std.specs.Prelude.{◌≡◌, ℕ, List, Ok}
use Rattle.cl_model.specs.{declared.{model.SystemModel.SystemModel, refusal.Refusal.Refusal}, Validity.IsValid}
use Rattle.cl_edit.specs.{declared.{edit.Edit.Edit, edit_lines.ListedEdit.ListedEdit}, Edited.after, Reading.{edits_of, AreEditsOf}}
use Rattle.cl_write.specs.Texts.{IsTextOf}
use Rattle.cl_engine.specs.{declared.outcome.Outcome.Outcome, Done.IsDone}
use Rattle.cl_top.specs.{Commands.Edit.{edits_refused, bad_line}, OfEdits.IsOfList, Meaning.{Meaning, on_both, takes_no_step, promises_of_both, WritesTheSame}}

-- what comes of the model after all edits: a text that is read as it
abbrev pub all_written : SystemModel → Outcome → Type 0
all_written made found = IsDone (IsTextOf made) found

-- an edit that is refused stands alone, by its line
abbrev pub refused_alone : (made : SystemModel) → (number : ℕ) → Edit → Refusal → Outcome
refused_alone made number edit refusal = edits_refused number refusal

-- the outcome of a text, for a valid model
abbrev pub IsOfApply : SystemModel → (text : List ℕ) → Outcome → Type 0
IsOfApply model text found = IsOfList all_written refused_alone bad_line model text found

-- ---- what is promised

-- The text is read as the model after the edits, is of the least version from 2 on that can say it, and its model is valid.
pub record HoldsEdited (model : SystemModel) (text_of_edits text : List ℕ) : Type 0 where
  pub listed : List ListedEdit
  pub are : AreEditsOf text_of_edits listed
  pub made : SystemModel
  pub applied : after model (edits_of listed) ≡ Ok made
  pub valid : IsValid made
  pub is_text : IsTextOf made text

-- what `apply` means
abbrev pub applying : Meaning
applying = record { comes_to = on_both IsOfApply; takes = takes_no_step; safe = promises_of_both HoldsEdited; same = WritesTheSame }
