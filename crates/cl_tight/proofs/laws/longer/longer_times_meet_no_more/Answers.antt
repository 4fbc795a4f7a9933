use Rattle.cl_tight.proofs.LongerFindings.{tasks_stay, chains_stay, requirements_stay}
use Rattle.cl_tight.proofs.laws.longer.longer_times_meet_no_more.Goals as goal

pub returns-clause-tasks : goal.returns-clause-tasks
returns-clause-tasks c = tasks_stay

pub returns-clause-chains : goal.returns-clause-chains
returns-clause-chains c = chains_stay

pub returns-clause-requirements : goal.returns-clause-requirements
returns-clause-requirements c = requirements_stay
