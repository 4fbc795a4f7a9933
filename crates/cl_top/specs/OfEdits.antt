-- Commands on a model and a list of edits that make the edits one after the other, and say what comes of the model after
-- all of them, of the first edit that is refused, or of the first bad line.
use Rattle.std.specs.Prelude.{◌≡◌, ◌⊎◌, ℕ, ◌<◌, List, length, map, take, slice_index_or, Ok, Err}
use Rattle.cl_model.specs.declared.{model.SystemModel.SystemModel, refusal.Refusal.Refusal}
use Rattle.cl_edit.specs.{declared.{edit.Edit.{Edit, TheVariants.Report}, edit_lines.ListedEdit.ListedEdit}, Edited.{edited, after}, Reading.{edits_of, AreEditsOf, IsBadEditLine}}
use Rattle.cl_engine.specs.declared.outcome.Outcome.{Outcome}

-- the edit at a place of a list, and the number of its line
abbrev pub edit_at : List ListedEdit → (place : ℕ) → Edit
edit_at listed place = slice_index_or (edits_of listed) place Report

abbrev pub line_at : List ListedEdit → (place : ℕ) → ℕ
line_at listed place = slice_index_or (map (λ (one : ListedEdit). one.line) listed) place 0

-- no edit is refused, and the outcome is what comes of the model after all of them
pub record AreAllApplied (all : SystemModel → Outcome → Type 0) (model : SystemModel) (edits : List Edit) (found : Outcome) : Type 0 where
  pub made : SystemModel
  pub applied : after model edits ≡ Ok made
  pub outcome : all made found

-- so many edits from the first are applied, and the next is refused: the outcome is that of its refusal
pub record IsOneRefused (refused_in : (made : SystemModel) → (number : ℕ) → Edit → Refusal → Outcome) (model : SystemModel) (listed : List ListedEdit) (found : Outcome) : Type 0 where
  pub count : ℕ
  pub one_more : count < length listed
  pub made : SystemModel
  pub applied : after model (take count (edits_of listed)) ≡ Ok made
  pub refusal : Refusal
  pub refused : edited made (edit_at listed count) ≡ Err refusal
  pub printed : found ≡ refused_in made (line_at listed count) (edit_at listed count) refusal

-- the text is a list of edits, of which the outcome is
pub record HasApplied (all : SystemModel → Outcome → Type 0) (refused_in : (made : SystemModel) → (number : ℕ) → Edit → Refusal → Outcome)
    (model : SystemModel) (text : List ℕ) (found : Outcome) : Type 0 where
  pub listed : List ListedEdit
  pub are : AreEditsOf text listed
  pub applied_to : AreAllApplied all model (edits_of listed) found ⊎ IsOneRefused refused_in model listed found

-- the text is none: the outcome is that of its first bad line
pub record HasBadLine (bad_line : (number : ℕ) → Outcome) (text : List ℕ) (found : Outcome) : Type 0 where
  pub number : ℕ
  pub bad : IsBadEditLine text number
  pub printed : found ≡ bad_line number

-- the outcome of a text, for a valid model
abbrev pub IsOfList : (all : SystemModel → Outcome → Type 0) (refused_in : (made : SystemModel) → (number : ℕ) → Edit → Refusal → Outcome) (bad_line : (number : ℕ) → Outcome)
    → SystemModel → (text : List ℕ) → Outcome → Type 0
IsOfList all refused_in bad_line model text found = HasApplied all refused_in model text found ⊎ HasBadLine bad_line text found
