use Rattle.std.proofs.Common.{◌≡◌, false, take, map, get_or, sym, ap, ◌∙◌, subst, take_all, arith}
use Rattle.std.specs.Prelude.{filter}
use Rattle.cl_model.specs.{declared.stimulus.StimulusKind.StimulusKind, ByNumber.tasks_of_core}
use Rattle.cl_stim.specs.Stimulus.{IsStimulus}
use Rattle.cl_stim.proofs.ValidStimuli.{has_stimulus}
use Rattle.cl_resp.proofs.{Questions.above_at, PhasedLists.{is_counted, beside_is}}
use Rattle.cl_resp.proofs.phased.all_beside.Goals as goal

pub of-stimulus-requires : goal.of-stimulus-requires
of-stimulus-requires c =
    let others = c.tasks_of_core-others.result.now in
    let known = c.tasks_of_core-others.ensures.within c.loop-other.other-index 0 c.loop-other-test.true in
    subst (λ (k : StimulusKind). IsStimulus k) (sym c.stimulus_of.ensures)
    (has_stimulus c.args.model.now c.requires.valid (get_or others c.loop-other.other-index 0) known)

pub returns : goal.returns
returns c =
    let model = c.args.model.now in
    let cycle = c.args.cycle.now.in_phase.items in
    let others = c.tasks_of_core-others.result.now in
    let all : take c.loop-other.other-index others ≡ others = take_all c.loop-other.other-index others (omega (arith, c.loop-other-test.false)) in
    c.loop-other.invariant
    ∙ ap (λ list. map (above_at model) (filter (is_counted model false cycle c.args.task) list))
    (all ∙ c.tasks_of_core-others.ensures.tasks ∙ ap (tasks_of_core model) c.core_of.ensures.core)
    ∙ beside_is model cycle c.args.task c.requires.task
