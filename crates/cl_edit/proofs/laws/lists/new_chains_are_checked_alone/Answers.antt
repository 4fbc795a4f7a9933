use Rattle.cl_edit.proofs.ChainChanges.{new_chain_refused}
use Rattle.cl_edit.proofs.laws.lists.new_chains_are_checked_alone.Goals as goal

pub returns : goal.returns
returns c model chain valid = new_chain_refused model valid chain
