use Rattle.cl_report.proofs.OneReport.{one_report}
use Rattle.cl_report.proofs.laws.reports_are_unique.Goals as goal

pub returns : goal.returns
returns c = one_report
