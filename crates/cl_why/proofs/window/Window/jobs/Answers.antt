use Rattle.std.proofs.Common.{◌≡◌, ◌+◌, ℤ, pos, ◌-ℤ◌, to_z, of_z, w64, sym, ap, ◌∙◌, subst, arith}
use Rattle.std.proofs.lemmas.Int.{ints}
use Rattle.cl_model.specs.{declared.stimulus.StimulusKind.StimulusKind, Ranges.IsKindInRange, Timing.IsKindOrdered}
use Rattle.cl_model.proofs.ValidTasks.{kind_in_range, kind_ordered}
use Rattle.cl_phase.specs.TightBounds.{ticks_or_none}
use Rattle.cl_stim.specs.{declared.{any_stimulus.AnyStimulus.AnyStimulus, phase.Phase.Phase}, AnyStimulus.kind_of, Releases.most_releases, Stimulus.IsStimulus}
use Rattle.cl_stim.proofs.ValidStimuli.{has_stimulus}
use Rattle.cl_cycle.specs.Counts.{arrivals_from}
use Rattle.cl_why.specs.Windows.{width_of}
use Rattle.cl_why.proofs.{WindowRanges.narrow, WindowJobs.{free_jobs, kept_jobs, jitter_few}}
use Rattle.cl_why.proofs.window.Window.jobs.Goals as goal

pub of-requires : goal.of-requires
of-requires c =
    subst (λ (k : StimulusKind). IsStimulus k) (sym c.stimulus_of-kind.ensures) (has_stimulus c.args.model.now c.plain.ensures.valid c.args.other c.requires.other)

pub most-requires : goal.most-requires
most-requires c =
    let model = c.args.model.now in
    let window = c.args.self.now in
    let wide : c.width.result ≡ width_of model window.task window.worst =
    c.width.ensures ∙ ap (λ (end : ℤ). ticks_or_none (end -ℤ window.worst.start)) c.requires.window.ends in
    omega (arith, wide, narrow model c.plain.ensures.valid window.task c.requires.window.is_task window.worst c.requires.window.is_worst)

pub returns-then-not-has-clause-jobs : goal.returns-then-not-has-clause-jobs
returns-then-not-has-clause-jobs c =
    let model = c.args.model.now in
    let window = c.args.self.now in
    let wide : c.width.result ≡ width_of model window.task window.worst =
    c.width.ensures ∙ ap (λ (end : ℤ). ticks_or_none (end -ℤ window.worst.start)) c.requires.window.ends in
    free_jobs model window.task c.args.other c.requires.other window.worst
    (sym (c.requires.window.cycle.in_phase c.args.other) ∙ sym c.has.ensures ∙ c.if-not-has.true) c.stimulus_of-kind.result c.width.result _ c.stimulus_of-kind.ensures wide
    (c.most.ensures.most ∙ ap (λ (s : AnyStimulus). most_releases (kind_of s) c.width.result) c.of.ensures)

pub arrivals_of-requires-clause-range : goal.arrivals_of-requires-clause-range
arrivals_of-requires-clause-range c =
    subst (λ (k : StimulusKind). IsKindInRange k) (sym c.stimulus_of-kind.ensures) (kind_in_range c.args.model.now c.plain.ensures.valid c.args.other c.requires.other)

pub arrivals_of-requires-clause-ordered : goal.arrivals_of-requires-clause-ordered
arrivals_of-requires-clause-ordered c =
    subst (λ (k : StimulusKind). IsKindOrdered k) (sym c.stimulus_of-kind.ensures) (kind_ordered c.args.model.now c.plain.ensures.valid c.args.other c.requires.other)

pub overflow_cast-from : goal.overflow_cast-from
overflow_cast-from c =
    let few = jitter_few c.args.model.now c.args.other c.requires.other c.plain.ensures.valid in
    omega (arith, ints, few, c.jitter_of-jitter.ensures)

pub overflow_sub-from : goal.overflow_sub-from
overflow_sub-from c =
    let few = jitter_few c.args.model.now c.args.other c.requires.other c.plain.ensures.valid in
    omega (arith, ints, few, c.jitter_of-jitter.ensures, c.requires.window.near.start)

pub arrivals_from-requires-clause-from : goal.arrivals_from-requires-clause-from
arrivals_from-requires-clause-from c =
    let few = jitter_few c.args.model.now c.args.other c.requires.other c.plain.ensures.valid in
    (omega (arith, ints, few, c.jitter_of-jitter.ensures, c.requires.window.near.start), omega (arith, ints, few, c.jitter_of-jitter.ensures, c.requires.window.near.start))

pub overflow_add-width : goal.overflow_add-width
overflow_add-width c =
    let model = c.args.model.now in
    let window = c.args.self.now in
    let few = jitter_few model c.args.other c.requires.other c.plain.ensures.valid in
    let wide : c.width-2.result ≡ width_of model window.task window.worst =
    c.width-2.ensures ∙ ap (λ (end : ℤ). ticks_or_none (end -ℤ window.worst.start)) c.requires.window.ends in
    omega (arith, few, c.jitter_of-jitter.ensures, wide, narrow model c.plain.ensures.valid window.task c.requires.window.is_task window.worst c.requires.window.is_worst)

pub arrivals_from-requires-clause-width : goal.arrivals_from-requires-clause-width
arrivals_from-requires-clause-width c =
    let model = c.args.model.now in
    let window = c.args.self.now in
    let few = jitter_few model c.args.other c.requires.other c.plain.ensures.valid in
    let wide : c.width-2.result ≡ width_of model window.task window.worst =
    c.width-2.ensures ∙ ap (λ (end : ℤ). ticks_or_none (end -ℤ window.worst.start)) c.requires.window.ends in
    omega (arith, few, c.jitter_of-jitter.ensures, wide, narrow model c.plain.ensures.valid window.task c.requires.window.is_task window.worst c.requires.window.is_worst)

pub returns-clause-jobs : goal.returns-clause-jobs
returns-clause-jobs c =
    let model = c.args.model.now in
    let window = c.args.self.now in
    let jitter = c.jitter_of-jitter.result in
    let few = jitter_few model c.args.other c.requires.other c.plain.ensures.valid in
    let wide : c.width-2.result ≡ width_of model window.task window.worst =
    c.width-2.ensures ∙ ap (λ (end : ℤ). ticks_or_none (end -ℤ window.worst.start)) c.requires.window.ends in
    let from : ℤ = to_z w64 (of_z w64 (to_z w64 (of_z w64 window.worst.start) -ℤ to_z w64 jitter)) in
    let begins : from ≡ (window.worst.start -ℤ pos jitter) = omega (arith, ints, few, c.jitter_of-jitter.ensures, c.requires.window.near.start) in
    kept_jobs model window.task c.args.other c.requires.other window.worst c.plain.ensures.valid c.requires.window.is_task
    (sym (c.requires.window.cycle.in_phase c.args.other) ∙ sym c.has.ensures ∙ c.if-not-has.false) c.stimulus_of-kind.result c.width-2.result jitter _ from
    c.stimulus_of-kind.ensures wide c.jitter_of-jitter.ensures begins
    (c.arrivals_from.ensures.arrivals ∙ ap (λ (phase : Phase). arrivals_from phase from (c.width-2.result + jitter)) c.arrivals_of.ensures.arrivals)
