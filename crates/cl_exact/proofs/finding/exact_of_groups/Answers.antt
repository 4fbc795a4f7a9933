use Rattle.std.proofs.Common.{sym, subst, arith}
use Rattle.cl_runs.specs.SystemOf.{system_of}
use Rattle.cl_exact.specs.Inner.Periods.{IsLeastMultiple}
use Rattle.cl_exact.proofs.{LimitFacts.{seen, is_within, is_past}, RunExact.{groups_always_ideal, groups_exact_in_runs}}
use Rattle.cl_exact.proofs.finding.exact_of_groups.Goals as goal

pub hyper_limit-limit-requires : goal.hyper_limit-limit-requires
hyper_limit-limit-requires g c =
    (seen (system_of c.args.model.now) c.args.groups.now c.beats_of-numbers.result.items c.as_slice-beats.result.now
    c.as_slice-beats.ensures.value c.beats_of-numbers.ensures.of).are_beats

pub hyperperiod-requires-clause-beats : goal.hyperperiod-requires-clause-beats
hyperperiod-requires-clause-beats g c =
    (seen (system_of c.args.model.now) c.args.groups.now c.beats_of-numbers.result.items c.as_slice-beats.result.now
    c.as_slice-beats.ensures.value c.beats_of-numbers.ensures.of).are_beats

pub exact_lengths-requires-clause-beats : goal.exact_lengths-requires-clause-beats
exact_lengths-requires-clause-beats g c =
    (seen (system_of c.args.model.now) c.args.groups.now c.beats_of-numbers.result.items c.as_slice-beats.result.now
    c.as_slice-beats.ensures.value c.beats_of-numbers.ensures.of).are_beats

pub exact_lengths-requires-clause-hyperperiod : goal.exact_lengths-requires-clause-hyperperiod
exact_lengths-requires-clause-hyperperiod g c =
    let found = c.in-Some.ensures in
    subst (IsLeastMultiple c.as_slice-beats.result.now) (sym found.2.0) found.1

pub exact_lengths-requires-clause-few : goal.exact_lengths-requires-clause-few
exact_lengths-requires-clause-few g c =
    let found = c.in-Some.ensures in
    omega (arith, found.2.0, found.2.1, c.hyper_limit-limit.ensures.few)

pub returns-in-Some-clause-exact : goal.returns-in-Some-clause-exact
returns-in-Some-clause-exact g c =
    c.exact_lengths.ensures.exact (system_of c.args.model.now) c.args.groups.now
    (seen (system_of c.args.model.now) c.args.groups.now c.beats_of-numbers.result.items c.as_slice-beats.result.now
    c.as_slice-beats.ensures.value c.beats_of-numbers.ensures.of)

pub returns-in-Some-clause-within : goal.returns-in-Some-clause-within
returns-in-Some-clause-within g c =
    let system = system_of c.args.model.now in
    let groups = c.args.groups.now in
    let found = c.in-Some.ensures in
    let of = seen system groups c.beats_of-numbers.result.items c.as_slice-beats.result.now c.as_slice-beats.ensures.value c.beats_of-numbers.ensures.of in
    is_within system groups c.as_slice-beats.result.now found.0 c.in-Some.hyperperiod c.hyper_limit-limit.result of found.1 found.2.0 found.2.1
    (c.hyper_limit-limit.ensures.limit system groups of)

pub returns-in-None-clause-past : goal.returns-in-None-clause-past
returns-in-None-clause-past g c =
    let system = system_of c.args.model.now in
    let groups = c.args.groups.now in
    let found = c.in-None.ensures in
    let of = seen system groups c.beats_of-numbers.result.items c.as_slice-beats.result.now c.as_slice-beats.ensures.value c.beats_of-numbers.ensures.of in
    is_past system groups c.as_slice-beats.result.now found.0 c.hyper_limit-limit.result of found.1 found.2 (c.hyper_limit-limit.ensures.limit system groups of)

pub returns-in-None-clause-limit : goal.returns-in-None-clause-limit
returns-in-None-clause-limit g c =
    let system = system_of c.args.model.now in
    let groups = c.args.groups.now in
    c.hyper_limit-limit.ensures.limit system groups
    (seen system groups c.beats_of-numbers.result.items c.as_slice-beats.result.now c.as_slice-beats.ensures.value c.beats_of-numbers.ensures.of)

pub returns-in-Some-clause-tied : goal.returns-in-Some-clause-tied
returns-in-Some-clause-tied g c =
    c.exact_lengths.ensures.tied (system_of c.args.model.now) c.args.groups.now
    (seen (system_of c.args.model.now) c.args.groups.now c.beats_of-numbers.result.items c.as_slice-beats.result.now
    c.as_slice-beats.ensures.value c.beats_of-numbers.ensures.of)

pub returns-in-Some-clause-in_runs : goal.returns-in-Some-clause-in_runs
returns-in-Some-clause-in_runs g c = λ responses.
    groups_exact_in_runs c.args.model.now c.beats_of-numbers.ensures.valid c.args.groups.now c.requires.of_tasks c.requires.timed_periodic responses
    c.exact_lengths.result (returns-in-Some-clause-exact g c)

pub returns-in-Some-clause-ideal : goal.returns-in-Some-clause-ideal
returns-in-Some-clause-ideal g c =
    groups_always_ideal c.args.model.now c.beats_of-numbers.ensures.valid c.args.groups.now c.requires.of_tasks c.requires.timed_periodic

pub returns-in-None-clause-ideal : goal.returns-in-None-clause-ideal
returns-in-None-clause-ideal g c =
    groups_always_ideal c.args.model.now c.beats_of-numbers.ensures.valid c.args.groups.now c.requires.of_tasks c.requires.timed_periodic
