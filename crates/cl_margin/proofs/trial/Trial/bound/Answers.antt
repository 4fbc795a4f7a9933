use Rattle.std.proofs.Common.{◌<◌, ◌≤◌, List, length, get_or, map, sym, ap, ◌∙◌, subst, arith}
use Rattle.std.specs.Prelude.{All}
use Rattle.std.proofs.lemmas.List.{length-map}
use Rattle.cl_model.specs.{declared.{group.Group.Group, model.SystemModel.SystemModel}, Groups.{no_group, groups_at}}
use Rattle.cl_runs.specs.SystemOf.{system_of}
use Rattle.cl_hop.specs.Hops.{IsNear}
use Rattle.cl_bound.specs.Answers.{answer_at, is_late}
use Rattle.cl_phase.specs.TightBounds.{tight_bounds}
use Rattle.cl_tight.specs.{TightAnswers.tight_answers_of, TightTimings.tight_timing}
use Rattle.cl_tight.proofs.TightTimings.{count_of_first}
use Rattle.cl_margin.specs.Inner.Trials.{IsTrialOf, IsTimingAt}
use Rattle.cl_margin.proofs.ChainSteps.{none_timed, one_timed, late_is, bounds_are, all_timed}
use Rattle.cl_margin.proofs.trial.Trial.bound.Goals as goal

pub loop-place-init : goal.loop-place-init
loop-place-init g c = record { timings = none_timed c.args.self.now.model c.args.chain c.new-timings.result.items c.new-timings.ensures; trial = c.requires.trial }

pub group-group-requires-clause-chain : goal.group-group-requires-clause-chain
group-group-requires-clause-chain g c =
    let same = c.loop-place.invariant.trial.is in
    omega (arith, c.requires.chain, ap (λ (m : SystemModel). length m.chains) same)

pub group-group-requires-clause-place : goal.group-group-requires-clause-place
group-group-requires-clause-place g c =
    let same = c.loop-place.invariant.trial.is in
    omega (arith, c.loop-place-test.true, ap length c.groups.ensures.groups, ap (λ (m : SystemModel). length (groups_at m c.args.chain)) same)

pub timing_of-requires-clause-trial : goal.timing_of-requires-clause-trial
timing_of-requires-clause-trial g c =
    subst (λ (m : SystemModel). IsTrialOf m c.loop-place.self) (sym c.loop-place.invariant.trial.is) c.loop-place.invariant.trial

pub returns-in-None-clause-answer : goal.returns-in-None-clause-answer
returns-in-None-clause-answer g c =
    let model = c.args.self.now.model in
    let same = c.loop-place.invariant.trial.is in
    let group = c.group-group.result in
    let lt : c.loop-place.place < length (groups_at model c.args.chain) = omega (arith, c.loop-place-test.true, ap length c.groups.ensures.groups) in
    late_is model c.args.chain c.requires.chain c.loop-place.place c.loop-place.timings.items group lt
    (c.group-group.ensures.group ∙ ap (λ (m : SystemModel). get_or (groups_at m c.args.chain) c.loop-place.place no_group) same)
    c.loop-place.invariant.timings
    (ap (λ (m : SystemModel). is_late (answer_at (tight_answers_of (system_of m)) group.task)) (sym same) ∙ (rw c.in-None.is at c.in_ok-timing.ensures.timing))

pub returns-in-None-clause-trial : goal.returns-in-None-clause-trial
returns-in-None-clause-trial g c =
    subst (λ (m : SystemModel). IsTrialOf m c.timing_of.new.self) c.loop-place.invariant.trial.is c.timing_of.ensures.trial

pub returns-in_err-timing-clause-trial : goal.returns-in_err-timing-clause-trial
returns-in_err-timing-clause-trial g c =
    subst (λ (m : SystemModel). IsTrialOf m c.timing_of.new.self) c.loop-place.invariant.trial.is c.timing_of.ensures.trial

pub push-requires : goal.push-requires
push-requires g c =
    let model = c.args.self.now.model in
    let lt : c.loop-place.place < length (groups_at model c.args.chain) = omega (arith, c.loop-place-test.true, ap length c.groups.ensures.groups) in
    let count = count_of_first (tight_timing (system_of model)) (groups_at model c.args.chain) c.loop-place.place lt in
    (omega arith, omega (arith, ap length c.loop-place.invariant.timings.items, count, lt, c.groups.ensures.few, ap length c.groups.ensures.groups))

pub loop-place-preserved : goal.loop-place-preserved
loop-place-preserved g c =
    let model = c.args.self.now.model in
    let same = c.loop-place.invariant.trial.is in
    let group = c.group-group.result in
    let own = c.in-Some.timing in
    let lt : c.loop-place.place < length (groups_at model c.args.chain) = omega (arith, c.loop-place-test.true, ap length c.groups.ensures.groups) in
    record {
      timings = one_timed model c.args.chain c.loop-place.place c.loop-place.timings.items c.push.new.self.items group own lt
          (c.group-group.ensures.group ∙ ap (λ (m : SystemModel). get_or (groups_at m c.args.chain) c.loop-place.place no_group) same)
          c.loop-place.invariant.timings
          (subst (λ (m : SystemModel). IsTimingAt m group own) same (rw c.in-Some.is at c.in_ok-timing.ensures.timing))
          c.push.ensures.items;
      trial = subst (λ (m : SystemModel). IsTrialOf m c.timing_of.new.self) same c.timing_of.ensures.trial;
    }

pub tight_bounds-requires-clause-as_many : goal.tight_bounds-requires-clause-as_many
tight_bounds-requires-clause-as_many g c =
    let model = c.args.self.now.model in
    let same = c.groups-groups.ensures.groups ∙ ap (λ (m : SystemModel). groups_at m c.args.chain) c.loop-place.invariant.trial.is in
    let all : length (groups_at model c.args.chain) ≤ c.loop-place.place = omega (arith, c.loop-place-test.false, ap length c.groups.ensures.groups) in
    ap length (c.as_slice.ensures.value ∙ all_timed model c.args.chain c.loop-place.place c.loop-place.timings.items all c.loop-place.invariant.timings)
    ∙ length-map (groups_at model c.args.chain) (tight_timing (system_of model))
    ∙ sym (ap length same)

pub tight_bounds-requires-clause-near : goal.tight_bounds-requires-clause-near
tight_bounds-requires-clause-near g c = subst (All IsNear) (sym c.as_slice.ensures.value) c.loop-place.invariant.timings.near

pub returns-clause-answer : goal.returns-clause-answer
returns-clause-answer g c =
    let model = c.args.self.now.model in
    let is = c.loop-place.invariant.trial.is in
    let timing = tight_timing (system_of model) in
    let same = c.groups-groups.ensures.groups ∙ ap (λ (m : SystemModel). groups_at m c.args.chain) is in
    let all : length (groups_at model c.args.chain) ≤ c.loop-place.place = omega (arith, c.loop-place-test.false, ap length c.groups.ensures.groups) in
    let timed = c.as_slice.ensures.value ∙ all_timed model c.args.chain c.loop-place.place c.loop-place.timings.items all c.loop-place.invariant.timings in
    bounds_are model c.args.chain c.requires.chain c.loop-place.place c.loop-place.timings.items c.tight_bounds.result all c.loop-place.invariant.timings
    (c.tight_bounds.ensures.bounds timing (timed ∙ sym (ap (map timing) same))
    ∙ ap (λ (m : SystemModel). tight_bounds (system_of m) timing c.groups-groups.result.now) is
    ∙ ap (λ (list : List Group). tight_bounds (system_of model) timing list) same)
