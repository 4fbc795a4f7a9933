use Rattle.cl_exact.proofs.finding.exact.Goals as goal

pub returns-clause-in_runs : goal.returns-clause-in_runs
returns-clause-in_runs g c = rw c.groups.ensures.groups at c.exact_of_groups.ensures.in_runs
