-- How many analysing steps a list of edits takes.
use Rattle.std.specs.Prelude.{◌⊎◌, ℕ, ◌+◌, ◌≤◌, List, [], ◌∷◌, Result, Ok, Err}
use Rattle.cl_model.specs.declared.{model.SystemModel.SystemModel, refusal.Refusal.Refusal}
use Rattle.cl_edit.specs.{declared.{edit.Edit.{Edit, TheVariants.{Tighten, Verify}}, edit_lines.ListedEdit.ListedEdit}, Edited.edited, Reading.{edits_of, AreEditsOf}}
use Rattle.cl_incr.specs.Changed.{AsksForChanges}
use Rattle.cl_top.specs.Meaning.{model_steps, task_steps}

-- the most steps of what an edit writes of a model
abbrev pub written_steps : Edit → SystemModel → ℕ
written_steps Tighten model = task_steps model
written_steps Verify model = task_steps model
written_steps edit model = 0

-- an edit asks for what it changes, and for what it writes
pub record AsksFor (edit : Edit) (old new : SystemModel) (before after : ℕ) : Type 0 where
  pub changed : ℕ
  pub changes : AsksForChanges old new before changed
  pub writes : after ≤ changed + written_steps edit new

-- and then comes what is asked of the edited model; nothing where the edit is refused
abbrev pub AsksThen : Edit → (old : SystemModel) → Result SystemModel Refusal → (next : SystemModel → (between : ℕ) → Type 0)
    → (before after : ℕ) → Type 0
AsksThen edit old (Err refusal) next before after = after ≤ before
AsksThen edit old (Ok new) next before after = (between : ℕ) × AsksFor edit old new before between × next new between

-- edits ask for what each changes and writes, up to the first that is refused
abbrev pub AskForChanges : (edits : List Edit) → SystemModel → (before after : ℕ) → Type 0
AskForChanges [] model before after = after ≤ before
AskForChanges (edit ∷ edits) model before after =
    AsksThen edit model (edited model edit) (λ new between. AskForChanges edits new between after) before after

-- the text is a list of edits, and they ask for what they change
pub record AskForEdits (model : SystemModel) (text : List ℕ) (before after : ℕ) : Type 0 where
  pub listed : List ListedEdit
  pub are : AreEditsOf text listed
  pub ask : AskForChanges (edits_of listed) model before after

-- a session is started, for as many steps as an analysis takes, and then edits ask for what they change; where a line is no
-- edit, that is all
pub record AreFewOfEdits (model : SystemModel) (text : List ℕ) (before after : ℕ) : Type 0 where
  pub started : ℕ
  pub start : started ≤ before + model_steps model
  pub rest : (after ≤ started) ⊎ AskForEdits model text started after
