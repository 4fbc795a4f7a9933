-- What each edit has written of a valid model: there is something, and but one where nothing is decided; it is safe, and
-- what a command writes.
use Rattle.std.proofs.Common.{◌≡◌, ℕ, ◌≤◌, Bool, false, List, [], length, Option, Some, None, Ok, refl, sym, ap, ◌∙◌, subst}
use Rattle.cl_model.specs.{declared.{model.SystemModel.SystemModel, refusal.Refusal.Refusal}, Reading.model_of, Refusals.first, Validity.{refusal_of, IsValid}}
use Rattle.cl_edit.specs.declared.edit.Edit.{Edit, TheVariants.{Range, Whole, Period, Offset, Jitter, Distances, Burst, Deadline, Swap, Priorities, Move, Kind, AddTask, DropTask, AddChain, DropChain, Requirement, DropRequirement, Report, Tighten, Verify}}
use Rattle.cl_report.specs.Report.{IsReportOf}
use Rattle.cl_report.proofs.OneReport.{one_report}
use Rattle.cl_tighten.specs.Tight.{tight_text}
use Rattle.cl_verify.specs.VerifyText.{IsVerifyTextOf}
use Rattle.cl_engine.specs.{declared.{files.TheConstants.FILE_LIMIT, outcome.Outcome.Outcome, status.TheConstants.DONE}, Fetched.{Fetched, told_fetch}, Files.model_file, Content.Model, Outcome.{ValidatesTo, ReadsTo, OpensTo}}
use Rattle.cl_engine.proofs.Tellings.{told_bytes}
use Rattle.cl_top.specs.{declared.command.Command.Command, Commands.{command_meaning, IsOutcomeOf, Edit.{IsWrittenBy, IsSafelyWritten, is_verify}}, Reported.{AnswersFilesOf, IsWrittenAsBy}, Verified.verify_status}
use Rattle.cl_top.specs.declared.command.Command.TheVariants as command
use Rattle.cl_top.proofs.SafeReport.{some_report, safe_report_of, safe_tight_report, some_verify_text}

-- ---- files of a valid model

valid_opens : (asked : Command) (model : SystemModel) (found : Outcome) (refusal : Option Refusal) → refusal ≡ None → IsOutcomeOf asked (Model model) found
    → ValidatesTo model refusal (λ m. IsOutcomeOf asked (Model m)) found
valid_opens asked model found None none is = is
valid_opens asked model found (Some refusal) none is = absurd cc

-- what comes of the model comes of each file of it
module _ (asked : Command) (model : SystemModel) (valid : IsValid model) (found : Outcome) (is : IsOutcomeOf asked (Model model) found) where
  abbrev next : SystemModel → Outcome → Type 0
  next m = IsOutcomeOf asked (Model m)

  comes_of_files : (contents : ℕ → List ℕ) → model_of (contents 1) ≡ Ok model → length (contents 1) ≤ FILE_LIMIT
      → OpensTo 1 (told_fetch contents model_file) (λ bytes. ReadsTo (model_of bytes) next) found
  comes_of_files contents means within =
      subst (λ (fetch : Fetched). OpensTo 1 fetch (λ bytes. ReadsTo (model_of bytes) next) found) (sym (told_bytes FILE_LIMIT (contents 1) within))
      (subst (λ read. ReadsTo read next found) (sym means) (valid_opens asked model found (refusal_of model) (ap first valid.accepted) is))

module _ (model : SystemModel) (valid : IsValid model) (text : List ℕ) where
  as_analysed : IsReportOf model text → AnswersFilesOf command.Analyse model DONE text
  unfolding command_meaning
  as_analysed is = comes_of_files command.Analyse model valid (record { status = DONE; text = text }) (record { status_is = refl; text_is = is })

  as_tightened : text ≡ tight_text model → AnswersFilesOf command.Tighten model DONE text
  unfolding command_meaning
  as_tightened is = comes_of_files command.Tighten model valid (record { status = DONE; text = text }) (record { status_is = refl; text_is = is })

  as_verified : IsVerifyTextOf model text → AnswersFilesOf command.Verify model (verify_status model) text
  unfolding command_meaning
  as_verified is = comes_of_files command.Verify model valid (record { status = verify_status model; text = text }) (record { status_is = refl; text_is = is })

-- ---- each edit

-- what holds of a text that is written, where it may be one of several, safe and what a command writes
abbrev IsGoodBy : (verifies : Bool) (IsWritten IsSafe IsOfCommand : List ℕ → Type 0) → Type 0
IsGoodBy verifies IsWritten IsSafe IsOfCommand =
    ((text : List ℕ) × IsWritten text)
    × (verifies ≡ false → (one other : List ℕ) → IsWritten one → IsWritten other → one ≡ other)
    × ((text : List ℕ) → IsWritten text → IsSafe text)
    × ((text : List ℕ) → IsWritten text → IsOfCommand text)

abbrev IsGood : SystemModel → Edit → Type 0
IsGood model edit = IsGoodBy (is_verify edit) (IsWrittenBy model edit) (IsSafelyWritten model edit) (IsWrittenAsBy model edit)

-- nothing is written
abbrev IsNone : List ℕ → Type 0
IsNone text = text ≡ []

none_good : IsGoodBy false IsNone IsNone IsNone
none_good = (([], refl), λ plain one other is also. is ∙ sym also, λ text is. is, λ text is. is)

module _ (model : SystemModel) (valid : IsValid model) where
  is_good : (edit : Edit) → IsGood model edit
  is_good Report = (some_report model valid, λ plain. one_report model, λ text is. safe_report_of model text valid is, as_analysed model valid)
  is_good Tighten = ((tight_text model, refl), λ plain one other is also. is ∙ sym also, λ text is. safe_tight_report model text valid is, as_tightened model valid)
  is_good Verify = (some_verify_text model valid, λ plain. absurd cc, λ text is. is, as_verified model valid)
  is_good (Range runnable least greatest) = none_good
  is_good (Whole runnable whole) = none_good
  is_good (Period stimulus period) = none_good
  is_good (Offset stimulus offset) = none_good
  is_good (Jitter stimulus jitter) = none_good
  is_good (Distances stimulus least greatest) = none_good
  is_good (Burst stimulus period count distance) = none_good
  is_good (Deadline task deadline) = none_good
  is_good (Swap one other) = none_good
  is_good (Priorities priorities) = none_good
  is_good (Move task core priority) = none_good
  is_good (Kind task access) = none_good
  is_good (AddTask task) = none_good
  is_good (DropTask task) = none_good
  is_good (AddChain chain) = none_good
  is_good (DropChain chain) = none_good
  is_good (Requirement requirement) = none_good
  is_good (DropRequirement requirement) = none_good

  pub some_written : (edit : Edit) → (text : List ℕ) × IsWrittenBy model edit text
  some_written edit = (is_good edit).0

  pub safely_written : (edit : Edit) (text : List ℕ) → IsWrittenBy model edit text → IsSafelyWritten model edit text
  safely_written edit = (is_good edit).2

  pub written_as_by : (edit : Edit) (text : List ℕ) → IsWrittenBy model edit text → IsWrittenAsBy model edit text
  written_as_by edit = (is_good edit).3

  pub one_written : (edit : Edit) → is_verify edit ≡ false → (one other : List ℕ) → IsWrittenBy model edit one → IsWrittenBy model edit other → one ≡ other
  one_written edit = (is_good edit).1
