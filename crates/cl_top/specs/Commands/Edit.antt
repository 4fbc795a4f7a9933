-- `edit MODEL EDITS`: what is found of a model as it is edited.
use Rattle.std.specs.Prelude.{◌≡◌, ◌⊎◌, ℕ, ◌<◌, ◌≤◌, Bool, true, false, List, [], ◌++◌, length, take, slice_index_or, codes, decimal, Ok, Err}
use Rattle.std.specs.List.{concat, list_any}
use Rattle.cl_text.specs.Line.{line}
use Rattle.cl_model.specs.{declared.{model.SystemModel.SystemModel, refusal.{Code.TheVariants.E1, Refusal.Refusal}}, Place.top, Refusal.refusal_text}
use Rattle.cl_edit.specs.{declared.{edit.Edit.{Edit, TheVariants.{Report, Tighten, Verify}}, edit_lines.ListedEdit.ListedEdit}, Edited.{edited, after}, Reading.{edits_of, AreEditsOf}}
use Rattle.cl_report.specs.Report.{IsReportOf}
use Rattle.cl_tighten.specs.Tight.{tight_text}
use Rattle.cl_verify.specs.VerifyText.{IsVerifyTextOf}
use Rattle.cl_engine.specs.{declared.{outcome.Outcome.Outcome, status.TheConstants.{DONE, EDITS_REFUSED}}, Content.of_both}
use Rattle.cl_top.specs.{OfEdits.{edit_at, line_at, HasBadLine}, Headline.{IsSafeReportOf, IsSafeTightReport}, Meaning.{Meaning, on_both, promises_of_both}, Steps.AreFewOfEdits}

-- an outcome with the status of refused edits
abbrev pub refused_with : (text : List ℕ) → Outcome
refused_with text = record { status = EDITS_REFUSED; text = text }

-- the line of this number is refused
abbrev pub edits_refused : (number : ℕ) → Refusal → Outcome
edits_refused number refusal = refused_with (line (codes "edits refused line " ++ decimal number ++ codes " " ++ refusal_text refusal))

-- the line of this number is no edit, or one too many
abbrev pub bad_line : (number : ℕ) → Outcome
bad_line number = edits_refused number (record { code = E1; place = top })

-- an outcome, with a text before its own
abbrev pub behind : List ℕ → Outcome → Outcome
behind text found = record { status = found.status; text = text ++ found.text }

-- What an edit has written of the model that it finds: its report, its tight bounds, what is decided of it, or nothing. All
-- runs that are tried to decide something, of one list of edits, have at most MOST_EXECUTIONS_OF_RUNS executions: later edits
-- may decide less of the same model than earlier ones.
abbrev pub IsWrittenBy : SystemModel → Edit → (text : List ℕ) → Type 0
IsWrittenBy model Report text = IsReportOf model text
IsWrittenBy model Tighten text = text ≡ tight_text model
IsWrittenBy model Verify text = IsVerifyTextOf model text
IsWrittenBy model edit text = text ≡ []

-- the edit at this place has written this piece, of the model after the edits above it
pub record HasWrittenPiece (model : SystemModel) (edits : List Edit) (place : ℕ) (piece : List ℕ) : Type 0 where
  pub found : SystemModel
  pub so_far : after model (take place edits) ≡ Ok found
  pub writes : IsWrittenBy found (slice_index_or edits place Report) piece

-- So many edits from the first are accepted, one after the other, which makes this of the model; each has written its piece.
pub record AreAccepted (model : SystemModel) (edits : List Edit) (count : ℕ) (pieces : List (List ℕ)) (made : SystemModel) : Type 0 where
  pub within : count ≤ length edits
  pub accepted : after model (take count edits) ≡ Ok made
  pub one_each : length pieces ≡ count
  pub written : (place : ℕ) → place < count → HasWrittenPiece model edits place (slice_index_or pieces place [])

-- the next edit is refused of this model: its refusal stands behind the text
pub record EndsRefused (made : SystemModel) (listed : List ListedEdit) (count : ℕ) (text : List ℕ) (found : Outcome) : Type 0 where
  pub one_more : count < length listed
  pub refusal : Refusal
  pub refused : edited made (edit_at listed count) ≡ Err refusal
  pub printed : found ≡ behind text (edits_refused (line_at listed count) refusal)

-- no edit is left, and there is nothing but the text
pub record EndsDone (listed : List ListedEdit) (count : ℕ) (text : List ℕ) (found : Outcome) : Type 0 where
  pub all : count ≡ length listed
  pub printed : found ≡ record { status = DONE; text = text }

-- What edits of a model come to: so many are accepted, the text is what these have written, joined, and then comes nothing
-- or one refusal.
pub record AreEditedTo (model : SystemModel) (listed : List ListedEdit) (found : Outcome) : Type 0 where
  pub count : ℕ
  pub pieces : List (List ℕ)
  pub made : SystemModel
  pub are : AreAccepted model (edits_of listed) count pieces made
  pub ends : EndsDone listed count (concat pieces) found ⊎ EndsRefused made listed count (concat pieces) found

-- the text is a list of edits, of which the outcome is
pub record HasEdits (model : SystemModel) (text : List ℕ) (found : Outcome) : Type 0 where
  pub listed : List ListedEdit
  pub are : AreEditsOf text listed
  pub edited_to : AreEditedTo model listed found

-- the text is none
abbrev pub HasBadEditLine : (text : List ℕ) → Outcome → Type 0
HasBadEditLine text found = HasBadLine bad_line text found

-- the outcome of a text, for a valid model
abbrev pub IsOfEdits : SystemModel → (text : List ℕ) → Outcome → Type 0
IsOfEdits model text found = HasEdits model text found ⊎ HasBadEditLine text found

-- ---- what is promised

-- what an edit has written is safe: a report, or tight bounds; what is decided of a model says itself what it shows
abbrev pub IsSafelyWritten : SystemModel → Edit → (text : List ℕ) → Type 0
IsSafelyWritten model Report text = IsSafeReportOf model text
IsSafelyWritten model Tighten text = IsSafeTightReport model text
IsSafelyWritten model Verify text = IsVerifyTextOf model text
IsSafelyWritten model edit text = text ≡ []

-- an edit has written what is safe of the model after the edits above it
pub record IsSafePiece (model : SystemModel) (edits : List Edit) (place : ℕ) (piece : List ℕ) : Type 0 where
  pub found : SystemModel
  pub so_far : after model (take place edits) ≡ Ok found
  pub safe : IsSafelyWritten found (slice_index_or edits place Report) piece

-- the piece of each edit among the first so many is safe
abbrev pub AreSafePieces : SystemModel → (edits : List Edit) (count : ℕ) (pieces : List (List ℕ)) → Type 0
AreSafePieces model edits count pieces = (place : ℕ) → place < count → IsSafePiece model edits place (slice_index_or pieces place [])

-- The text is the pieces of the edits that are accepted, joined, and each of them is safe.
pub record AreSafeTexts (model : SystemModel) (text_of_edits text : List ℕ) : Type 0 where
  pub listed : List ListedEdit
  pub are : AreEditsOf text_of_edits listed
  pub count : ℕ
  pub pieces : List (List ℕ)
  pub made : SystemModel
  pub accepted : AreAccepted model (edits_of listed) count pieces made
  pub printed : text ≡ concat pieces
  pub safe : AreSafePieces model (edits_of listed) count pieces

-- The edit behind those that are accepted is refused: the text is their pieces, joined, with its line behind them, and each
-- piece is safe.
pub record StopsAtRefused (model : SystemModel) (text_of_edits text : List ℕ) : Type 0 where
  pub listed : List ListedEdit
  pub are : AreEditsOf text_of_edits listed
  pub count : ℕ
  pub pieces : List (List ℕ)
  pub made : SystemModel
  pub accepted : AreAccepted model (edits_of listed) count pieces made
  pub stops : EndsRefused made listed count (concat pieces) (refused_with text)
  pub safe : AreSafePieces model (edits_of listed) count pieces

-- what is written with status 7: what is safe and the line of a refused edit, or alone the line that is no edit
abbrev pub StopsSafely : SystemModel → (text_of_edits text : List ℕ) → Type 0
StopsSafely model text_of_edits text = StopsAtRefused model text_of_edits text ⊎ HasBadEditLine text_of_edits (refused_with text)

-- whether an edit asks what is decided of the model
abbrev pub is_verify : Edit → Bool
is_verify Verify = true
is_verify edit = false

-- two outcomes of the same edits of the same model, some of which ask what is decided: that may be said in more ways than one
pub record VerifyTheSame (one other : Outcome) : Type 0 where
  pub model : SystemModel
  pub listed : List ListedEdit
  pub asks : list_any is_verify (edits_of listed) ≡ true
  pub first : AreEditedTo model listed one
  pub second : AreEditedTo model listed other

-- two outcomes are equal, unless an edit asks what is decided
abbrev pub EditTheSame : (one other : Outcome) → Type 0
EditTheSame one other = (one ≡ other) ⊎ VerifyTheSame one other

-- what `edit` means
abbrev pub editing : Meaning
editing = record {
  comes_to = on_both IsOfEdits;
  takes = of_both AreFewOfEdits (λ before after. ⊥);
  safe = promises_of_both AreSafeTexts;
  same = EditTheSame;
}
