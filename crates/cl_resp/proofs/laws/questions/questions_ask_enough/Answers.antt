use Rattle.cl_runs.specs.TaskTiming.{timing_at}
use Rattle.cl_resp.proofs.EnoughAsked.{asks_plain, asks_tight}
use Rattle.cl_resp.proofs.laws.questions.questions_ask_enough.Goals as goal

pub returns-clause-plain : goal.returns-clause-plain
returns-clause-plain c = λ system task. asks_plain system (timing_at system task)

pub returns-clause-tight : goal.returns-clause-tight
returns-clause-tight c = λ system task. asks_tight system (timing_at system task)
