use Rattle.cl_analyse.proofs.{SafeFindings.one_findings, SomeFindings.some_findings}
use Rattle.cl_analyse.proofs.laws.findings_are_unique.Goals as goal

pub returns-clause-some : goal.returns-clause-some
returns-clause-some c = some_findings

pub returns-clause-one : goal.returns-clause-one
returns-clause-one c = one_findings
