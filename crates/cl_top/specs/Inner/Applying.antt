-- What edits come to that are applied one after the other.
use Rattle.std.specs.Prelude.{◌≡◌, ℕ, List, [], ◌∷◌, Result, Ok, Err}
use Rattle.cl_model.specs.declared.{model.SystemModel.SystemModel, refusal.Refusal.Refusal}
use Rattle.cl_edit.specs.{declared.{edit.Edit.Edit, edit_lines.ListedEdit.ListedEdit}, Edited.edited}
use Rattle.cl_engine.specs.declared.outcome.Outcome.{Outcome}

-- an edit of this model is refused, or the others follow
abbrev pub OrRefused : (refused_in : (made : SystemModel) → (number : ℕ) → Edit → Refusal → Outcome) → SystemModel → ListedEdit → Result SystemModel Refusal
    → (next : SystemModel → Type 0) → Outcome → Type 0
OrRefused refused_in model one (Ok changed) next found = next changed
OrRefused refused_in model one (Err refusal) next found = found ≡ refused_in model one.line one.edit refusal

-- these edits come to this: what comes of the model after all of them, or the first refusal
abbrev pub ApplyTo : (all : SystemModel → Outcome → Type 0) (refused_in : (made : SystemModel) → (number : ℕ) → Edit → Refusal → Outcome)
    → SystemModel → List ListedEdit → Outcome → Type 0
ApplyTo all refused_in model [] found = all model found
ApplyTo all refused_in model (one ∷ others) found = OrRefused refused_in model one (edited model one.edit) (λ changed. ApplyTo all refused_in changed others found) found
