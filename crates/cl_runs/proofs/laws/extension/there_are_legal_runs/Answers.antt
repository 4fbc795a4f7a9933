use Rattle.cl_runs.proofs.{Extension.{empty_legal, some_legal}, Filling.legal_of_table}
use Rattle.cl_runs.proofs.laws.extension.there_are_legal_runs.Goals as goal

pub returns-clause-empty : goal.returns-clause-empty
returns-clause-empty c = empty_legal

pub returns-clause-every_length : goal.returns-clause-every_length
returns-clause-every_length c = some_legal

pub returns-clause-every_table : goal.returns-clause-every_table
returns-clause-every_table c = legal_of_table
