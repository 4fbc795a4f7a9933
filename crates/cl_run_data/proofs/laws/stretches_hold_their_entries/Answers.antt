use Rattle.cl_run_data.proofs.StretchEntries.{entry_of_tick, lasts_some, last_ends}
use Rattle.cl_run_data.proofs.laws.stretches_hold_their_entries.Goals as goal

pub returns-clause-entry : goal.returns-clause-entry
returns-clause-entry c = entry_of_tick

pub returns-clause-some : goal.returns-clause-some
returns-clause-some c = lasts_some

pub returns-clause-last : goal.returns-clause-last
returns-clause-last c = last_ends
