use Rattle.cl_resp.proofs.AnsweredSooner.{report_by_phase, tight_by_phase, choice_answers}
use Rattle.cl_resp.proofs.laws.by_phase.responses_by_phase_are_no_later.Goals as goal

pub returns-clause-report : goal.returns-clause-report
returns-clause-report c = report_by_phase

pub returns-clause-tight : goal.returns-clause-tight
returns-clause-tight c = tight_by_phase

pub returns-clause-choice : goal.returns-clause-choice
returns-clause-choice c = choice_answers
