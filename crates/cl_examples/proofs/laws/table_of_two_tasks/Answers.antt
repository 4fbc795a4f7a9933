use Rattle.cl_examples.proofs.ExampleRun.{table_lawful, table_without_second}
use Rattle.cl_examples.proofs.laws.table_of_two_tasks.Goals as goal

pub returns-clause-lawful : goal.returns-clause-lawful
returns-clause-lawful c = table_lawful

pub returns-clause-not_without_the_last : goal.returns-clause-not_without_the_last
returns-clause-not_without_the_last c = table_without_second
