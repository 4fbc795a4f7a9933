use Rattle.std.proofs.Common.{◌≡◌, true, take, map, get_or, sym, ap, ◌∙◌, subst, take_all, arith}
use Rattle.std.specs.Prelude.{filter}
use Rattle.cl_model.specs.{declared.stimulus.StimulusKind.StimulusKind, ByNumber.tasks_of_core, Ranges.IsKindInRange, Timing.IsKindOrdered}
use Rattle.cl_model.proofs.ValidTasks.{kind_in_range, kind_ordered}
use Rattle.cl_resp.proofs.PhasedLists.{is_counted, by_phase_at, in_phase_is}
use Rattle.cl_resp.proofs.phased.all_in_phase.Goals as goal

pub arrivals_of-requires-clause-range : goal.arrivals_of-requires-clause-range
arrivals_of-requires-clause-range c =
    let known = c.tasks_of_core-others.ensures.within c.loop-other.other-index 0 c.loop-other-test.true in
    subst (λ (k : StimulusKind). IsKindInRange k) (sym c.stimulus_of.ensures)
    (kind_in_range c.args.model.now c.requires.valid (get_or c.tasks_of_core-others.result.now c.loop-other.other-index 0) known)

pub arrivals_of-requires-clause-ordered : goal.arrivals_of-requires-clause-ordered
arrivals_of-requires-clause-ordered c =
    let known = c.tasks_of_core-others.ensures.within c.loop-other.other-index 0 c.loop-other-test.true in
    subst (λ (k : StimulusKind). IsKindOrdered k) (sym c.stimulus_of.ensures)
    (kind_ordered c.args.model.now c.requires.valid (get_or c.tasks_of_core-others.result.now c.loop-other.other-index 0) known)

pub returns : goal.returns
returns c =
    let model = c.args.model.now in
    let cycle = c.args.cycle.now.in_phase.items in
    let others = c.tasks_of_core-others.result.now in
    let all : take c.loop-other.other-index others ≡ others = take_all c.loop-other.other-index others (omega (arith, c.loop-other-test.false)) in
    c.loop-other.invariant
    ∙ ap (λ list. map (by_phase_at model) (filter (is_counted model true cycle c.args.task) list))
    (all ∙ c.tasks_of_core-others.ensures.tasks ∙ ap (tasks_of_core model) c.core_of.ensures.core)
    ∙ in_phase_is model cycle c.args.task c.requires.task
