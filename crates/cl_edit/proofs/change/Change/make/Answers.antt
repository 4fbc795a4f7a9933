use Rattle.std.proofs.Common.{sym, ap, ◌∙◌, subst}
use Rattle.std.specs.Prelude.{◌≡◌, IfOk}
use Rattle.cl_edit.specs.{declared.change.Change.Change, Changing.{with_change, MayBeMade}}
use Rattle.cl_edit.proofs.change.Change.make.Goals as goal

pub with_range-requires-clause-step : goal.with_range-requires-clause-step
with_range-requires-clause-step c = (subst (MayBeMade c.args.model) c.in-Range.is c.requires).of_model

pub with_range-requires-clause-valid : goal.with_range-requires-clause-valid
with_range-requires-clause-valid c = (subst (MayBeMade c.args.model) c.in-Range.is c.requires).valid

pub with_whole-requires-clause-step : goal.with_whole-requires-clause-step
with_whole-requires-clause-step c = (subst (MayBeMade c.args.model) c.in-Whole.is c.requires).of_model

pub with_whole-requires-clause-valid : goal.with_whole-requires-clause-valid
with_whole-requires-clause-valid c = (subst (MayBeMade c.args.model) c.in-Whole.is c.requires).valid

pub with_kind-requires-clause-stimulus : goal.with_kind-requires-clause-stimulus
with_kind-requires-clause-stimulus c = (subst (MayBeMade c.args.model) c.in-Stimulus.is c.requires).of_model

pub with_kind-requires-clause-valid : goal.with_kind-requires-clause-valid
with_kind-requires-clause-valid c = (subst (MayBeMade c.args.model) c.in-Stimulus.is c.requires).valid

pub with_deadline-requires-clause-task : goal.with_deadline-requires-clause-task
with_deadline-requires-clause-task c = (subst (MayBeMade c.args.model) c.in-Deadline.is c.requires).of_model

pub with_deadline-requires-clause-valid : goal.with_deadline-requires-clause-valid
with_deadline-requires-clause-valid c = (subst (MayBeMade c.args.model) c.in-Deadline.is c.requires).valid

pub with_access-requires-clause-task : goal.with_access-requires-clause-task
with_access-requires-clause-task c = (subst (MayBeMade c.args.model) c.in-Access.is c.requires).of_model

pub with_access-requires-clause-valid : goal.with_access-requires-clause-valid
with_access-requires-clause-valid c = (subst (MayBeMade c.args.model) c.in-Access.is c.requires).valid

pub without_task-requires-clause-task : goal.without_task-requires-clause-task
without_task-requires-clause-task c = (subst (MayBeMade c.args.model) c.in-DropTask.is c.requires).of_model

pub without_task-requires-clause-valid : goal.without_task-requires-clause-valid
without_task-requires-clause-valid c = (subst (MayBeMade c.args.model) c.in-DropTask.is c.requires).valid

pub without_chain-requires-clause-chain : goal.without_chain-requires-clause-chain
without_chain-requires-clause-chain c = (subst (MayBeMade c.args.model) c.in-DropChain.is c.requires).of_model

pub without_chain-requires-clause-valid : goal.without_chain-requires-clause-valid
without_chain-requires-clause-valid c = (subst (MayBeMade c.args.model) c.in-DropChain.is c.requires).valid

pub without_requirement-requires-clause-requirement : goal.without_requirement-requires-clause-requirement
without_requirement-requires-clause-requirement c = (subst (MayBeMade c.args.model) c.in-DropRequirement.is c.requires).of_model

pub without_requirement-requires-clause-valid : goal.without_requirement-requires-clause-valid
without_requirement-requires-clause-valid c = (subst (MayBeMade c.args.model) c.in-DropRequirement.is c.requires).valid

pub with_place-requires-clause-task : goal.with_place-requires-clause-task
with_place-requires-clause-task c = (subst (MayBeMade c.args.model) c.in-Move.is c.requires).of_model

pub with_place-requires-clause-valid : goal.with_place-requires-clause-valid
with_place-requires-clause-valid c = (subst (MayBeMade c.args.model) c.in-Move.is c.requires).valid

pub set_priorities-requires : goal.set_priorities-requires
set_priorities-requires c = subst (MayBeMade c.args.model) c.in-Priorities.is c.requires

pub set_requirement-requires : goal.set_requirement-requires
set_requirement-requires c = subst (MayBeMade c.args.model) c.in-Requirement.is c.requires

pub add_requirement-requires : goal.add_requirement-requires
add_requirement-requires c = subst (MayBeMade c.args.model) c.in-AddRequirement.is c.requires

pub returns-in-Range : goal.returns-in-Range
returns-in-Range c = c.with_range.ensures ∙ ap (with_change c.args.model) (sym c.in-Range.is)

pub returns-in-Whole : goal.returns-in-Whole
returns-in-Whole c = c.with_whole.ensures ∙ ap (with_change c.args.model) (sym c.in-Whole.is)

pub returns-in-Stimulus : goal.returns-in-Stimulus
returns-in-Stimulus c = c.with_kind.ensures ∙ ap (with_change c.args.model) (sym c.in-Stimulus.is)

pub returns-in-Deadline : goal.returns-in-Deadline
returns-in-Deadline c = c.with_deadline.ensures ∙ ap (with_change c.args.model) (sym c.in-Deadline.is)

pub returns-in-Access : goal.returns-in-Access
returns-in-Access c = c.with_access.ensures ∙ ap (with_change c.args.model) (sym c.in-Access.is)

pub returns-in-DropTask : goal.returns-in-DropTask
returns-in-DropTask c = c.without_task.ensures ∙ ap (with_change c.args.model) (sym c.in-DropTask.is)

pub returns-in-DropChain : goal.returns-in-DropChain
returns-in-DropChain c = c.without_chain.ensures ∙ ap (with_change c.args.model) (sym c.in-DropChain.is)

pub returns-in-DropRequirement : goal.returns-in-DropRequirement
returns-in-DropRequirement c = c.without_requirement.ensures ∙ ap (with_change c.args.model) (sym c.in-DropRequirement.is)

pub returns-in-Priorities : goal.returns-in-Priorities
returns-in-Priorities c = c.set_priorities.ensures ∙ ap (with_change c.args.model) (sym c.in-Priorities.is)

pub returns-in-Requirement : goal.returns-in-Requirement
returns-in-Requirement c =
    subst (λ (change : Change). IfOk c.set_requirement.result (λ changed. changed ≡ with_change c.args.model change)) (sym c.in-Requirement.is) c.set_requirement.ensures

pub returns-in-AddRequirement : goal.returns-in-AddRequirement
returns-in-AddRequirement c =
    subst (λ (change : Change). IfOk c.add_requirement.result (λ changed. changed ≡ with_change c.args.model change)) (sym c.in-AddRequirement.is) c.add_requirement.ensures

pub returns-in-Move : goal.returns-in-Move
returns-in-Move c =
    subst (λ (change : Change). IfOk c.with_place.result (λ changed. changed ≡ with_change c.args.model change)) (sym c.in-Move.is) c.with_place.ensures

pub returns-in-Nothing : goal.returns-in-Nothing
returns-in-Nothing c = ap (with_change c.args.model) (sym c.in-Nothing.is)

pub add_task-requires : goal.add_task-requires
add_task-requires c = subst (MayBeMade c.args.model) c.in-AddTask.is c.requires

pub returns-in-AddTask : goal.returns-in-AddTask
returns-in-AddTask c =
    subst (λ (change : Change). IfOk c.add_task.result (λ changed. changed ≡ with_change c.args.model change)) (sym c.in-AddTask.is) c.add_task.ensures

pub add_chain-requires : goal.add_chain-requires
add_chain-requires c = subst (MayBeMade c.args.model) c.in-AddChain.is c.requires

pub returns-in-AddChain : goal.returns-in-AddChain
returns-in-AddChain c =
    subst (λ (change : Change). IfOk c.add_chain.result (λ changed. changed ≡ with_change c.args.model change)) (sym c.in-AddChain.is) c.add_chain.ensures
