use Rattle.cl_edit.proofs.ChainChanges.{dropped_chain_refused}
use Rattle.cl_edit.proofs.laws.lists.dropped_chains_are_missed_by_requirements.Goals as goal

pub returns : goal.returns
returns c model chain valid within = dropped_chain_refused model valid chain within
