use Rattle.cl_gen.proofs.DrawnByKind.{periodic_job, first_sporadic_job, next_sporadic_job, burst_job}
use Rattle.cl_gen.proofs.laws.jobs_are_drawn_by_kind.Goals as goal

pub returns-clause-periodic : goal.returns-clause-periodic
returns-clause-periodic c = λ word from period offset jitter ranges. periodic_job word from ranges period offset jitter

pub returns-clause-first_sporadic : goal.returns-clause-first_sporadic
returns-clause-first_sporadic c = λ word from least greatest ranges. first_sporadic_job word from ranges least greatest

pub returns-clause-next_sporadic : goal.returns-clause-next_sporadic
returns-clause-next_sporadic c = λ word from least greatest ranges. next_sporadic_job word from ranges least greatest

pub returns-clause-bursts : goal.returns-clause-bursts
returns-clause-bursts c = λ word from period offset count distance ranges. burst_job word from ranges period offset count distance
