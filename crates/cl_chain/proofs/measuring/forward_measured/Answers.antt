use Rattle.cl_runs.specs.Chains.{first_job}
use Rattle.cl_chain.specs.Inner.ChainsOver.{IsForwardOver}
use Rattle.cl_chain.proofs.RowFacts.{chains_counted}
use Rattle.cl_chain.proofs.measuring.forward_measured.Goals as goal

pub returns : goal.returns
returns c = (c.in_ok-chain.ensures, rw c.len.ensures (chains_counted (IsForwardOver c.args.groups.now) first_job c.in_ok-rows.rows c.in_ok-rows.ensures))

pub forward_rows-requires : goal.forward_rows-requires
forward_rows-requires c = record { some = c.requires.some; writes = c.requires.writes }
