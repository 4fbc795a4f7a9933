use Rattle.std.proofs.Common.{◌≡◌, take, ap, ◌∙◌, take_all, arith}
use Rattle.std.specs.Prelude.{filter}
use Rattle.cl_model.specs.{ByNumber.tasks_of_core, Holds.greatest_by}
use Rattle.cl_tune.specs.Inner.Times.{may_hold, hold_with}
use Rattle.cl_tune.proofs.in_time.block_of.Goals as goal

pub returns : goal.returns
returns c =
    let model = c.args.model.now in
    let others = c.tasks_of_core-other-items.result.now in
    let all : take c.loop-other.other-index others ≡ others = take_all c.loop-other.other-index others (omega (arith, c.loop-other-test.false)) in
    c.loop-other.invariant
    ∙ ap (λ list. greatest_by (hold_with c.args.times.now) (filter (may_hold model c.args.task) list))
    (all ∙ c.tasks_of_core-other-items.ensures.tasks ∙ ap (tasks_of_core model) c.core_of.ensures.core)
