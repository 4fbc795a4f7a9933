use Rattle.std.proofs.Common.{sym, ◌∙◌, arith}
use Rattle.std.proofs.lemmas.List.Elements.{All-nil}
use Rattle.cl_model.specs.{Groups.no_group, ByNumber.chain_at}
use Rattle.cl_analyse.proofs.FirstLate.{late_found, timely_more, timely_all, none_late}
use Rattle.cl_analyse.proofs.analysing.first_late.Goals as goal

pub loop-place-init : goal.loop-place-init
loop-place-init c = All-nil _

pub returns-then-task_is_late : goal.returns-then-task_is_late
returns-then-task_is_late c =
    sym (late_found c.args.answers.now c.args.model.now (chain_at c.args.model.now c.args.chain) c.loop-place.place
    c.group-task.result no_group (omega arith) c.group-task.ensures.group c.loop-place.invariant (sym c.task_is_late.ensures ∙ c.if-task_is_late.true))

pub loop-place-preserved : goal.loop-place-preserved
loop-place-preserved c =
    timely_more c.args.answers.now c.args.model.now (chain_at c.args.model.now c.args.chain) c.loop-place.place
    c.group-task.result no_group (omega arith) c.group-task.ensures.group c.loop-place.invariant (sym c.task_is_late.ensures ∙ c.if-task_is_late.false)

pub returns : goal.returns
returns c =
    sym (none_late c.args.answers.now c.args.model.now (chain_at c.args.model.now c.args.chain)
    (timely_all c.args.answers.now c.args.model.now (chain_at c.args.model.now c.args.chain) c.loop-place.place (omega arith) c.loop-place.invariant))
