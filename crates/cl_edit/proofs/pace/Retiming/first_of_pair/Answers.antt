use Rattle.cl_edit.proofs.RefusedPairs.{of_pair}
use Rattle.cl_edit.proofs.pace.Retiming.first_of_pair.Goals as goal

pub returns-clause-first : goal.returns-clause-first
returns-clause-first c =
    (of_pair c.args.fault c.args.model.now c.requires.valid c.args.self c.requires.change c.args.first c.noted-first.result c.noted.result c.args.task c.args.other c.pace-own.result c.pace-its.result c.is_refused.result c.is_refused-2.result
    c.requires.task c.requires.other c.pace-own.ensures c.pace-its.ensures c.is_refused.ensures c.noted-first.ensures c.is_refused-2.ensures c.noted.ensures c.requires.core c.requires.first).sound

pub returns-clause-kept : goal.returns-clause-kept
returns-clause-kept c =
    (of_pair c.args.fault c.args.model.now c.requires.valid c.args.self c.requires.change c.args.first c.noted-first.result c.noted.result c.args.task c.args.other c.pace-own.result c.pace-its.result c.is_refused.result c.is_refused-2.result
    c.requires.task c.requires.other c.pace-own.ensures c.pace-its.ensures c.is_refused.ensures c.noted-first.ensures c.is_refused-2.ensures c.noted.ensures c.requires.core c.requires.first).kept

pub returns-clause-seen : goal.returns-clause-seen
returns-clause-seen c =
    (of_pair c.args.fault c.args.model.now c.requires.valid c.args.self c.requires.change c.args.first c.noted-first.result c.noted.result c.args.task c.args.other c.pace-own.result c.pace-its.result c.is_refused.result c.is_refused-2.result
    c.requires.task c.requires.other c.pace-own.ensures c.pace-its.ensures c.is_refused.ensures c.noted-first.ensures c.is_refused-2.ensures c.noted.ensures c.requires.core c.requires.first).seen
