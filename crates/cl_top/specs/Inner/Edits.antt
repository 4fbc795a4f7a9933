-- What the edits of a session come to, one by one.
use Rattle.std.specs.Prelude.{◌≡◌, ℕ, ◌+◌, ◌≤◌, ◌++◌, List, Result, Ok, Err}
use Rattle.cl_model.specs.declared.{model.SystemModel.SystemModel, refusal.Refusal.Refusal}
use Rattle.cl_edit.specs.{declared.edit.Edit.Edit, Edited.edited}
use Rattle.cl_top.specs.{Commands.Edit.IsWrittenBy, Meaning.model_steps, Steps.{AsksFor, AskForChanges}}

-- an edit was made: the model is the edited one, and what the edit has written stands behind the text
pub record IsMade (old : SystemModel) (edit : Edit) (new : SystemModel) (before after : List ℕ) : Type 0 where
  pub made : edited old edit ≡ Ok new
  pub written : List ℕ
  pub writes : IsWrittenBy old edit written
  pub put : after ≡ before ++ written

-- an edit asked for what it changes and writes, and for nothing where it is refused
abbrev pub HasAsked : Edit → (old : SystemModel) → (made : Result SystemModel Refusal) → (before after : ℕ) → Type 0
HasAsked edit old (Err refusal) before after = after ≤ before
HasAsked edit old (Ok new) before after = AsksFor edit old new before after

-- a session was started, and edits asked for what they change
pub record HaveAsked (edits : List Edit) (model : SystemModel) (before after : ℕ) : Type 0 where
  pub started : ℕ
  pub start : started ≤ before + model_steps model
  pub ask : AskForChanges edits model started after
