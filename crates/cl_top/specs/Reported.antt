-- What the edits of a list have written is what commands write for a file of the model as it is edited so far.
use Rattle.std.specs.Prelude.{◌≡◌, ℕ, ◌≤◌, List, [], length, take, slice_index_or, Ok, Some}
use Rattle.cl_model.specs.{declared.model.SystemModel.SystemModel, Reading.model_of}
use Rattle.cl_edit.specs.{declared.edit.Edit.{Edit, TheVariants.{Report, Tighten, Verify}}, Edited.after}
use Rattle.cl_top.specs.{declared.command.Command.Command, Commands.commands, Verified.verify_status}
use Rattle.cl_top.specs.declared.command.Command.TheVariants as command
use Rattle.cl_engine.specs.{declared.{files.TheConstants.FILE_LIMIT, status.TheConstants.DONE}, Fetched.told_fetch, Outcome.HasOutcome}

-- the command ends with this status and this text for each file of the model that is within the limit of a file
abbrev pub AnswersFilesOf : Command → SystemModel → (status : ℕ) (text : List ℕ) → Type 0
AnswersFilesOf asked model status text = (contents : ℕ → List ℕ) → model_of (contents 1) ≡ Ok model → length (contents 1) ≤ FILE_LIMIT
    → HasOutcome commands (Some asked) (told_fetch contents) (record { status = status; text = text })

-- what an edit has written of a model is what `analyse`, `tighten` or `verify` writes, or nothing
abbrev pub IsWrittenAsBy : SystemModel → Edit → (text : List ℕ) → Type 0
IsWrittenAsBy model Report text = AnswersFilesOf command.Analyse model DONE text
IsWrittenAsBy model Tighten text = AnswersFilesOf command.Tighten model DONE text
IsWrittenAsBy model Verify text = AnswersFilesOf command.Verify model (verify_status model) text
IsWrittenAsBy model edit text = text ≡ []

-- so is the piece of the edit at this place, of the model after the edits above it
pub record IsPieceOfCommand (model : SystemModel) (edits : List Edit) (place : ℕ) (piece : List ℕ) : Type 0 where
  pub changed : SystemModel
  pub so_far : after model (take place edits) ≡ Ok changed
  pub written : IsWrittenAsBy changed (slice_index_or edits place Report) piece
