use Rattle.std.proofs.Common.{◌≡◌, ℕ, ◌+◌, ◌-◌, ◌^◌, true, min, List, get_or, take, sym, ap, ◌∙◌, subst, take_all, arith}
use Rattle.std.specs.List.{filter}
use Rattle.cl_model.specs.{declared.stimulus.StimulusKind.StimulusKind, ByNumber.{stimulus_of, deadline_of, tasks_of_core}}
use Rattle.cl_stim.specs.{declared.any_stimulus.AnyStimulus.AnyStimulus, AnyStimulus.kind_of, Releases.most_releases, Stimulus.IsStimulus}
use Rattle.cl_stim.proofs.ValidStimuli.{has_stimulus}
use Rattle.cl_cycle.specs.{Inner.Gathering.{has_higher, tasks_beside}, Cycles.is_one_of}
use Rattle.cl_cycle.proofs.{GatheredWork.{kind_of-as_stimulus, counts_by_most, most_of, counts, counts_not_taken, counts_not_below, most_more, most_same, capped_more, deadline_few, little_is}, cycle.Cycle.is_little_work.Goals.{then-is_above+then-not-has, else-is_above}}
use Rattle.cl_cycle.proofs.cycle.Cycle.is_little_work.Goals.{else-is_above-via-then-is_above+else-not-has, else-is_above-via-else-is_above}
use Rattle.cl_cycle.proofs.cycle.Cycle.is_little_work.Goals as goal

pub of-requires : goal.of-requires
of-requires c =
    let known = c.tasks_of_core-other-items.ensures.within c.loop-other.other-index 0 c.loop-other-test.true in
    subst (λ (k : StimulusKind). IsStimulus k) (sym c.stimulus_of.ensures)
    (has_stimulus c.args.model.now c.is_above.ensures.valid (get_or c.tasks_of_core-other-items.result.now c.loop-other.other-index 0) known)

pub most-most-requires : goal.most-most-requires
most-most-requires c =
    omega (arith, c.deadline_of-deadline.ensures, deadline_few c.args.model.now c.is_above.ensures.valid c.args.task c.requires)

pub loop-other-preserved : goal.loop-other-preserved
loop-other-preserved c =
    let model = c.args.model.now in
    let task = c.args.task in
    let taken = c.args.self.now.in_phase.items in
    let others = c.tasks_of_core-other-items.result.now in
    let index = c.loop-other.other-index in
    let other = get_or others index 0 in
    let within = c.loop-other-test.true in
    let before = c.loop-other.invariant in
    elim c.if-is_above.branch [
      | then-is_above+then-not-has w ↦
          let passes : counts_by_most model task taken other ≡ true =
          counts (has_higher model task other) (is_one_of taken other) (sym c.is_above.ensures.higher ∙ w.if-is_above.true) (sym w.has.ensures ∙ w.if-not-has.true) in
          let most : w.most-most.result ≡ most_releases (stimulus_of model other) (deadline_of model task) =
          w.most-most.ensures.most ∙ ap (λ (any : AnyStimulus). most_releases (kind_of any) c.deadline_of-deadline.result) w.of.ensures
          ∙ ap (λ (kind : StimulusKind). most_releases kind c.deadline_of-deadline.result) (kind_of-as_stimulus w.stimulus_of.result ∙ w.stimulus_of.ensures)
          ∙ ap (most_releases (stimulus_of model other)) c.deadline_of-deadline.ensures in
          w.released-is ∙ w.saturating_add-released.ensures
          ∙ capped_more c.loop-other.released (most_of model task (filter (counts_by_most model task taken) (take index others))) w.most-most.result (2 ^ 64 - 1) before
          ∙ ap (λ n. min n (2 ^ 64 - 1))
          (ap (λ n. most_of model task (filter (counts_by_most model task taken) (take index others)) + n) most
          ∙ sym (most_more model task taken others index within passes))
      | else-is_above w ↦ elim w.else-is_above.branch [
        | else-is_above-via-then-is_above+else-not-has v ↦
            w.released-is ∙ before ∙ ap (λ n. min n (2 ^ 64 - 1))
            (sym (most_same model task taken others index within
            (counts_not_taken (has_higher model task other) (is_one_of taken other) (sym v.has.ensures ∙ v.if-not-has.false))))
        | else-is_above-via-else-is_above v ↦
            w.released-is ∙ before ∙ ap (λ n. min n (2 ^ 64 - 1))
            (sym (most_same model task taken others index within
            (counts_not_below (has_higher model task other) (is_one_of taken other) (sym c.is_above.ensures.higher ∙ v.if-is_above.false))))
      ]
    ]

pub returns : goal.returns
returns c so_far gathered =
    let model = c.args.model.now in
    let others = c.tasks_of_core-other-items.result.now in
    let test = counts_by_most model c.args.task c.args.self.now.in_phase.items in
    let all : take c.loop-other.other-index others ≡ tasks_beside model c.args.task =
    take_all c.loop-other.other-index others (omega (arith, c.loop-other-test.false))
    ∙ c.tasks_of_core-other-items.ensures.tasks ∙ ap (tasks_of_core model) c.core_of.ensures.core in
    little_is model c.args.task c.requires c.args.self.now so_far gathered c.loop-other.released c.saturating_mul.result
    (c.loop-other.invariant ∙ ap (λ (list : List ℕ). min (most_of model c.args.task (filter test list)) (2 ^ 64 - 1)) all)
    c.saturating_mul.ensures
