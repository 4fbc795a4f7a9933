use Rattle.cl_resp.proofs.LeastAnswers.{found_is_least, least_is_found}
use Rattle.cl_resp.proofs.laws.by_phase.least_responses_answer.Goals as goal

pub returns-clause-found : goal.returns-clause-found
returns-clause-found c = found_is_least

pub returns-clause-is_found : goal.returns-clause-is_found
returns-clause-is_found c = least_is_found
