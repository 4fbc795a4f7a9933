use Rattle.cl_resp.proofs.SettledTasks.{execution_in_response, response_in_deadline, execution_in_tight, tight_in_deadline}
use Rattle.cl_resp.proofs.laws.responses.responses_lie_between.Goals as goal

pub returns-clause-execution : goal.returns-clause-execution
returns-clause-execution c = execution_in_response

pub returns-clause-deadline : goal.returns-clause-deadline
returns-clause-deadline c = λ system sound task response settled. response_in_deadline system task response settled sound

pub returns-clause-tight_execution : goal.returns-clause-tight_execution
returns-clause-tight_execution c = execution_in_tight

pub returns-clause-tight_deadline : goal.returns-clause-tight_deadline
returns-clause-tight_deadline c = λ system sound task response settled. tight_in_deadline system task response settled sound
