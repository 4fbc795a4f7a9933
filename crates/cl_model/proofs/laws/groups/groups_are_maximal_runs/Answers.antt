use Rattle.cl_model.specs.{ByNumber.chain_at, Groups.{groups_of, steps_of}}
use Rattle.cl_model.proofs.MaximalRuns.{groups_are_runs, runs_are_groups}
use Rattle.cl_model.proofs.laws.groups.groups_are_maximal_runs.Goals as goal

pub returns-clause-runs : goal.returns-clause-runs
returns-clause-runs c = groups_are_runs

pub returns-clause-only : goal.returns-clause-only
returns-clause-only c = runs_are_groups

pub returns-clause-of_chain : goal.returns-clause-of_chain
unfolding groups_of
returns-clause-of_chain c model chain = groups_are_runs (steps_of model (chain_at model chain))
