-- A model has one report, since it has one findings.
use Rattle.std.proofs.Common.{◌≡◌, ℕ, List, ap, sym, ◌∙◌}
use Rattle.cl_model.specs.declared.model.SystemModel.{SystemModel}
use Rattle.cl_analyse.proofs.SafeFindings.{one_findings}
use Rattle.cl_report.specs.Report.{report_text, IsReportOf}

pub one_report : (model : SystemModel) (one other : List ℕ) → IsReportOf model one → IsReportOf model other → one ≡ other
one_report model one other first second =
    first.printed ∙ ap (report_text model) (one_findings model first.findings second.findings first.found second.found) ∙ sym second.printed
