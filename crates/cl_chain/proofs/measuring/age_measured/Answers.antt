use Rattle.cl_runs.specs.Chains.{last_job}
use Rattle.cl_chain.specs.Inner.ChainsOver.{IsAgeOver}
use Rattle.cl_chain.proofs.RowFacts.{chains_counted}
use Rattle.cl_chain.proofs.measuring.age_measured.Goals as goal

pub returns : goal.returns
returns c = (c.in_ok-chain.ensures, rw c.len.ensures (chains_counted (IsAgeOver c.args.groups.now) last_job c.in_ok-rows.rows c.in_ok-rows.ensures))
