use Rattle.cl_report.proofs.OneSurvey.{one_survey}
use Rattle.cl_report.proofs.laws.surveys_are_unique.Goals as goal

pub returns : goal.returns
returns c = one_survey
