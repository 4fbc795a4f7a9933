use Rattle.std.proofs.Common.{refl}
use Rattle.cl_edit.specs.declared.pace.Retiming.TheVariants as change
use Rattle.cl_edit.proofs.RefusedPairs.{first_of_deadline, first_of_kind, first_of_priorities, first_of_move}
use Rattle.cl_edit.proofs.pace.Retiming.first_refused.Goals as goal

pub returns-in-Deadline : goal.returns-in-Deadline
returns-in-Deadline c =
    first_of_deadline c.args.fault c.args.model.now c.requires.valid c.first_beside.result c.args.self c.in-Deadline.task c.in-Deadline.deadline c.in-Deadline.is c.requires.change
    c.first_beside.ensures.first c.first_beside.ensures.seen

pub returns-in-Kind : goal.returns-in-Kind
returns-in-Kind c =
    first_of_kind c.args.fault c.args.model.now c.requires.valid c.first_on.result c.args.self c.in-Kind.stimulus c.in-Kind.kind c.in-Kind.is c.requires.change
    c.first_on.ensures.first c.first_on.ensures.seen

pub returns-in-Priorities : goal.returns-in-Priorities
returns-in-Priorities c =
    first_of_priorities c.args.fault c.args.model.now c.requires.valid c.first_of_set.result c.args.self (change.Priorities c.in-Priorities.set c.in-Priorities.after) c.in-Priorities.set.now c.in-Priorities.is c.requires.change
    (λ t. refl) c.first_of_set.ensures.first c.first_of_set.ensures.seen

pub returns-in-Move : goal.returns-in-Move
returns-in-Move c =
    first_of_move c.args.fault c.args.model.now c.requires.valid c.first_beside-in-Move.result c.args.self c.in-Move.task c.in-Move.core c.in-Move.priority c.in-Move.is c.requires.change
    c.first_beside-in-Move.ensures.first c.first_beside-in-Move.ensures.seen
