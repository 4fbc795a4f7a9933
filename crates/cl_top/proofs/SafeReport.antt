-- What is written of a valid model: there is a report, which is safe, as tight bounds are, and a text of decisions.
use Rattle.std.proofs.Common.{◌≡◌, ℕ, List, refl}
use Rattle.cl_model.specs.{declared.model.SystemModel.SystemModel, Validity.IsValid}
use Rattle.cl_analyse.proofs.{SafeFindings.findings_safe, SomeFindings.some_findings}
use Rattle.cl_tight.proofs.TightLaws.{tight_findings_safe, tight_findings_as_tight}
use Rattle.cl_report.specs.Report.{report_text, IsReportOf}
use Rattle.cl_tighten.specs.Tight.{tight_text}
use Rattle.cl_verify.specs.VerifyText.{verify_text, IsVerifyTextOf}
use Rattle.cl_verify.proofs.SomeDecisions.{some_decisions}
use Rattle.cl_top.specs.Headline.{IsSafeReportOf, IsSafeTightReport}

pub some_report : (model : SystemModel) → IsValid model → (text : List ℕ) × IsReportOf model text
some_report model valid =
    let (findings, found) = some_findings model valid in
    (report_text model findings, record { findings = findings; found = found; printed = refl })

pub safe_report_of : (model : SystemModel) (text : List ℕ) → IsValid model → IsReportOf model text → IsSafeReportOf model text
safe_report_of model text valid is = record {
  valid = valid;
  findings = is.findings;
  found = is.found;
  printed = is.printed;
  safe = findings_safe model valid is.findings is.found;
}

pub safe_tight_report : (model : SystemModel) (text : List ℕ) → IsValid model → text ≡ tight_text model → IsSafeTightReport model text
safe_tight_report model text valid is = record {
  printed = is;
  safe = tight_findings_safe model valid;
  as_tight = λ report found. tight_findings_as_tight model valid report found;
}

pub some_verify_text : (model : SystemModel) → IsValid model → (text : List ℕ) × IsVerifyTextOf model text
some_verify_text model valid =
    let (decisions, decided) = some_decisions model valid in
    (verify_text model decisions, record { decisions = decisions; decided = decided; printed = refl })
