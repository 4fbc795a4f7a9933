use Rattle.cl_edit.proofs.RequirementLaws.{requirement_set, requirement_added, requirement_dropped}
use Rattle.cl_edit.proofs.laws.few_checks.requirements_need_one_check.Goals as goal

pub returns-clause-set : goal.returns-clause-set
returns-clause-set c model r to valid is = requirement_set model valid r to is.0 is.1

pub returns-clause-added : goal.returns-clause-added
returns-clause-added c model requirement valid new = requirement_added model valid requirement new

pub returns-clause-dropped : goal.returns-clause-dropped
returns-clause-dropped c model r valid = requirement_dropped model valid r
