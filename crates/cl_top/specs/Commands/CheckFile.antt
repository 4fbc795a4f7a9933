-- `check MODEL FILE`: what to mend in a list of edits or a trace, for a model that is accepted.
use Rattle.std.specs.Prelude.{◌≡◌, ◌⊎◌, ℕ, ◌+◌, ◌≤◌, Bool, true, false, nat_lt, List, ◌++◌, length, Option, Some, None, Ok, codes}
use Rattle.cl_text.specs.Line.{line}
use Rattle.cl_model.specs.{declared.{model.SystemModel.SystemModel, refusal.Refusal.Refusal}, Reading.model_of, Validity.IsValid}
use Rattle.cl_edit.specs.{declared.{edit.Edit.Edit, edit_lines.ListedEdit.ListedEdit, version.Version.Version}, Edited.after, Reading.{edits_of, AreEditsOf}, Said.version_named}
use Rattle.cl_lists.specs.{BadLines.bad_line_text, RefusedEdits.refused_edit_text, NoTitles.no_title_text}
use Rattle.cl_runs.specs.{Run.Run, SystemOf.system_of, Legal.IsLegal}
use Rattle.cl_check.specs.{declared.run_fault.{Rule.Rule, RunFault.TheVariants.Illegal}, Legality.IsFirstBroken}
use Rattle.cl_trace.specs.Rules.{IsTraceOf, IsBadTraceLine}
use Rattle.cl_traces.specs.{BadTraceLines.bad_trace_text, SaidOfRules.IsSaidOfRule, Titles.is_titled_trace}
use Rattle.cl_engine.specs.{declared.{files.TheConstants.FILE_LIMIT, outcome.Outcome.Outcome}, Done.IsDone, Outcome.long_file}
use Rattle.cl_top.specs.{Commands.{Check.{IsChecked, ChecksTheSame, read_steps, IsSafeAdvice}, Edit.{edits_refused, bad_line}}, OfEdits.IsOfList, OfTrace.{trace_refused, trace_illegal}, Meaning.{Meaning, of_either}}

-- nothing is wrong with the file
abbrev pub accepted_file : List ℕ
accepted_file = line (codes "chainlat check 2") ++ line (codes "accepted")

abbrev pub IsAcceptedFile : Outcome → Type 0
IsAcceptedFile found = IsDone (λ text. text ≡ accepted_file) found

-- an outcome, and what is said of it behind its text
abbrev pub with_said : Outcome → (said : List ℕ) → Outcome
with_said found said = record { status = found.status; text = found.text ++ said }

-- ---- a list of edits

-- of the model after all edits nothing is said but that the list is accepted
abbrev pub all_accepted : SystemModel → Outcome → Type 0
all_accepted made found = IsAcceptedFile found

-- an edit of a list that is refused, and what to mend in its line
abbrev pub edit_mended : (text : List ℕ) → (made : SystemModel) → (number : ℕ) → Edit → Refusal → Outcome
edit_mended text made number edit refusal = with_said (edits_refused number refusal) (refused_edit_text text number made edit refusal)

-- a line that is no edit, and what to mend in it
abbrev pub line_mended : Version → (text : List ℕ) → (number : ℕ) → Outcome
line_mended version text number = with_said (bad_line number) (bad_line_text version text number)

abbrev pub IsOfListFile : Version → SystemModel → (text : List ℕ) → Outcome → Type 0
IsOfListFile version model text found = IsOfList all_accepted (edit_mended text) (line_mended version text) model text found

-- a list has at most as many bytes as a model file, though a trace may have more
abbrev pub IsOfLimitedList : (is_long : Bool) → Version → SystemModel → (text : List ℕ) → Outcome → Type 0
IsOfLimitedList true version model text found = found ≡ long_file 2
IsOfLimitedList false version model text found = IsOfListFile version model text found

-- ---- a trace

-- the first rule that the run breaks, and what to mend for it
pub record HasMendedRule (model : SystemModel) (run : Run) (found : Outcome) : Type 0 where
  pub rule : Rule
  pub place : ℕ
  pub tick : ℕ
  pub broken : IsFirstBroken (system_of model) run (Illegal rule place tick)
  pub said : List ℕ
  pub says : IsSaidOfRule model run rule place tick said
  pub printed : found ≡ with_said (trace_illegal model rule place tick) said

-- the run is legal, and nothing is wrong
pub record HasLegalRun (model : SystemModel) (run : Run) (found : Outcome) : Type 0 where
  pub legal : IsLegal (system_of model) run
  pub accepted : IsAcceptedFile found

-- the outcome of a run
abbrev pub IsCheckedRun : SystemModel → Run → Outcome → Type 0
IsCheckedRun model run found = HasLegalRun model run found ⊎ HasMendedRule model run found

-- the text is the trace of a run
pub record HasRunOf (model : SystemModel) (text : List ℕ) (found : Outcome) : Type 0 where
  pub run : Run
  pub trace : IsTraceOf model text run
  pub of_run : IsCheckedRun model run found

-- the text is no trace: its first bad line, and what to mend in it
pub record HasMendedLine (model : SystemModel) (text : List ℕ) (found : Outcome) : Type 0 where
  pub number : ℕ
  pub bad : IsBadTraceLine model text number
  pub printed : found ≡ with_said (trace_refused number) (bad_trace_text model text number)

abbrev pub IsOfTraceFile : SystemModel → (text : List ℕ) → Outcome → Type 0
IsOfTraceFile model text found = HasRunOf model text found ⊎ HasMendedLine model text found

-- ---- either

-- neither a list nor a trace: as a list that begins with another line, and which lines may stand there
abbrev pub no_title : Outcome
no_title = with_said (bad_line 1) no_title_text

-- the outcome of a file, by what its first line says
abbrev pub FileChecks : (named : Option Version) → (is_trace : Bool) → SystemModel → (text : List ℕ) → Outcome → Type 0
FileChecks (Some version) is_trace model text found = IsOfLimitedList (nat_lt FILE_LIMIT (length text)) version model text found
FileChecks None true model text found = IsOfTraceFile model text found
FileChecks None false model text found = found ≡ no_title

abbrev pub IsFileChecked : SystemModel → (text : List ℕ) → Outcome → Type 0
IsFileChecked model text found = FileChecks (version_named text) (is_titled_trace text) model text found

-- ---- what is promised

-- the text lists edits of the model, none of which is refused, and leaves a valid one
pub record AreEditsFor (model : SystemModel) (text : List ℕ) : Type 0 where
  pub listed : List ListedEdit
  pub are : AreEditsOf text listed
  pub made : SystemModel
  pub applied : after model (edits_of listed) ≡ Ok made
  pub valid : IsValid made

-- the text is the trace of a legal run of the model
pub record IsLegalTraceFor (model : SystemModel) (text : List ℕ) : Type 0 where
  pub run : Run
  pub trace : IsTraceOf model text run
  pub legal : IsLegal (system_of model) run

-- what `check` accepts beside a model: one of the two
abbrev pub IsRightFile : (model : SystemModel) (file text : List ℕ) → Type 0
IsRightFile model file text = AreEditsFor model file ⊎ IsLegalTraceFor model file

-- what `check` with a second file means: as `check` where the model is refused
abbrev pub checking_file : Meaning
checking_file = record {
  comes_to = of_either IsChecked IsFileChecked (λ found. ⊥);
  takes = of_either (λ bytes before after. after ≤ before + read_steps (model_of bytes)) (λ model text before after. after ≤ before) (λ before after. ⊥);
  safe = of_either IsSafeAdvice IsRightFile (λ text. ⊥);
  same = ChecksTheSame;
}
