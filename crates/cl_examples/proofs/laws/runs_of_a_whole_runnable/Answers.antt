use Rattle.cl_examples.proofs.{DividedRun.broken_legal_divided, ModelOfExample.one_core_system, WholeRun.{one_core_lawful, whole_legal, broken_not_legal}}
use Rattle.cl_examples.proofs.laws.runs_of_a_whole_runnable.Goals as goal

pub returns-clause-system : goal.returns-clause-system
returns-clause-system c = one_core_system

pub returns-clause-lawful : goal.returns-clause-lawful
returns-clause-lawful c = one_core_lawful

pub returns-clause-legal : goal.returns-clause-legal
returns-clause-legal c = whole_legal

pub returns-clause-not_interrupted : goal.returns-clause-not_interrupted
returns-clause-not_interrupted c = broken_not_legal

pub returns-clause-interrupted_where_divided : goal.returns-clause-interrupted_where_divided
returns-clause-interrupted_where_divided c = broken_legal_divided
