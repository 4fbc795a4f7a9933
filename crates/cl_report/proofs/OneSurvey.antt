-- A model has one survey, since it has one findings.
use Rattle.std.proofs.Common.{◌≡◌, ℕ, List, ap, sym, ◌∙◌}
use Rattle.cl_model.specs.declared.model.SystemModel.{SystemModel}
use Rattle.cl_analyse.proofs.SafeFindings.{one_findings}
use Rattle.cl_report.specs.Survey.{survey_text, IsSurveyOf}

pub one_survey : (model : SystemModel) (one other : List ℕ) → IsSurveyOf model one → IsSurveyOf model other → one ≡ other
one_survey model one other first second =
    first.printed ∙ ap survey_text (one_findings model first.findings second.findings first.found second.found) ∙ sym second.printed
