use Rattle.cl_model.proofs.Links.{own_task, task_found, own_chain, chain_found, own_kinds, kind_found, core_named, stimulus_named}
use Rattle.cl_model.proofs.laws.names.entries_are_found.Goals as goal

pub returns-clause-task : goal.returns-clause-task
returns-clause-task c = own_task

pub returns-clause-task_named : goal.returns-clause-task_named
returns-clause-task_named c = task_found

pub returns-clause-chain : goal.returns-clause-chain
returns-clause-chain c = own_chain

pub returns-clause-chain_named : goal.returns-clause-chain_named
returns-clause-chain_named c = chain_found

pub returns-clause-stimulus : goal.returns-clause-stimulus
returns-clause-stimulus c = own_kinds

pub returns-clause-stimulus_named : goal.returns-clause-stimulus_named
returns-clause-stimulus_named c = kind_found

pub returns-clause-core : goal.returns-clause-core
returns-clause-core c = core_named

pub returns-clause-kind : goal.returns-clause-kind
returns-clause-kind c = stimulus_named
