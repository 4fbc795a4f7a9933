use Rattle.cl_verify.proofs.VerifyLaws.{broken_misses, broken_breaks}
use Rattle.cl_verify.proofs.laws.what_is_broken_is_so.Goals as goal

pub returns-clause-tasks : goal.returns-clause-tasks
returns-clause-tasks c = broken_misses

pub returns-clause-requirements : goal.returns-clause-requirements
returns-clause-requirements c = broken_breaks
