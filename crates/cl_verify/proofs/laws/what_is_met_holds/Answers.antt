use Rattle.cl_verify.proofs.VerifyLaws.{met_finishes, met_is_kept}
use Rattle.cl_verify.proofs.laws.what_is_met_holds.Goals as goal

pub returns-clause-tasks : goal.returns-clause-tasks
returns-clause-tasks c = λ model valid decisions are. met_finishes model decisions are valid

pub returns-clause-requirements : goal.returns-clause-requirements
returns-clause-requirements c = λ model valid decisions are. met_is_kept model decisions are valid
