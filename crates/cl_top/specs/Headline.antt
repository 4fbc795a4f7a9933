-- What is printed of a model is safe, from the bytes of its file to the bytes of the text (docs/promises.md).
use Rattle.std.specs.Prelude.{◌≡◌, ℕ, ◌≤◌, List, length, Ok}
use Rattle.cl_io.specs.{Shelf.{Held, MayBe}, Sink.appended}
use Rattle.cl_model.specs.{declared.model.SystemModel.SystemModel, Reading.model_of, Validity.IsValid}
use Rattle.cl_analyse.specs.{declared.findings.Findings.Findings, Findings.AreFindings, Headline.AreSafeFindings}
use Rattle.cl_tight.specs.{TightFindings.tight_findings_of, Promises.{AreSafeTightFindings, AreAsTight}}
use Rattle.cl_cut.specs.CutAnswers.{AreSafeAnswers, AreNoWorseAnswers}
use Rattle.cl_report.specs.Report.{report_text}
use Rattle.cl_tighten.specs.Tight.{tight_text}
use Rattle.cl_designs.specs.Cuts.{IsCutTextOf}
use Rattle.cl_engine.specs.{declared.files.TheConstants.FILE_LIMIT, Calls.SinkCall}

-- ---- analyse

-- The text is the report of this valid model, and what it prints is safe: each bound and each exact length is at least the
-- length of every complete job chain of its chain and kind in every legal run, of any length; the witness of an exact
-- length is such a chain, of that length, in every legal run that lasts to its end; a bound is missing only where a task
-- has no fixpoint within its deadline, and exact lengths are missing only where a task is late, where one isn't both timed
-- and periodic, or where the hyperperiod exceeds the limit that is printed.
pub record IsSafeReportOf (model : SystemModel) (text : List ℕ) : Type 0 where
  pub valid : IsValid model
  pub findings : Findings
  pub found : AreFindings model findings
  pub printed : text ≡ report_text model findings
  pub safe : AreSafeFindings model findings

-- the text is the safe report of the model that the bytes mean
pub record IsSafeReport (bytes text : List ℕ) : Type 0 where
  pub model : SystemModel
  pub means : model_of bytes ≡ Ok model
  pub report : IsSafeReportOf model text

-- such a report was written, and nothing else
pub record HasReported {K : Type 0} (sink : SinkCall K) (bytes : List ℕ) : Type 0 where
  pub text : List ℕ
  pub is_safe : IsSafeReport bytes text
  pub whole : sink.written sink.after ≡ appended (sink.written sink.before) text

-- such a report was written, of some bytes that may lie under the name and are within the limit of a model file
pub record HasReportedSome {K : Type 0} (held : Held) (sink : SinkCall K) : Type 0 where
  pub bytes : List ℕ
  pub may_be : MayBe held bytes
  pub within : length bytes ≤ FILE_LIMIT
  pub reported : HasReported sink bytes

-- ---- the other commands on a model

-- The text is that of the best cuts of the model: each cost is at least the reaction of every complete forward chain of
-- its chain in every legal run, of any length, and at most the bound that `analyse` prints.
pub record AreSafeCuts (model : SystemModel) (text : List ℕ) : Type 0 where
  pub cuts : IsCutTextOf model text
  pub safe : AreSafeAnswers model cuts.answers
  pub no_worse : AreNoWorseAnswers model cuts.answers

-- The text is the report by tight bounds of the model: each bound is at least the length of every complete job chain of
-- its chain and kind in every legal run, of any length, none is greater than that of the report, and exact lengths are
-- tight bounds; what is met is kept, and what is broken is broken in some legal run.
pub record IsSafeTightReport (model : SystemModel) (text : List ℕ) : Type 0 where
  pub printed : text ≡ tight_text model
  pub safe : AreSafeTightFindings model (tight_findings_of model)
  pub as_tight : (report : Findings) → AreFindings model report → AreAsTight model (tight_findings_of model) report
