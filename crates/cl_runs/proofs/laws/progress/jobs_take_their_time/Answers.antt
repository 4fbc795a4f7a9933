use Rattle.cl_runs.proofs.JobProgress.{starts_late, finishes_late, finishes_apart}
use Rattle.cl_runs.proofs.laws.progress.jobs_take_their_time.Goals as goal

pub returns-clause-start : goal.returns-clause-start
returns-clause-start c = starts_late

pub returns-clause-finish : goal.returns-clause-finish
returns-clause-finish c = finishes_late

pub returns-clause-apart : goal.returns-clause-apart
returns-clause-apart c = finishes_apart
