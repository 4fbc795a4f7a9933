use Rattle.std.proofs.Common.{◌≡◌, sym, ap, ◌∙◌, subst}
use Rattle.cl_model.specs.{declared.stimulus.StimulusKind.StimulusKind, ByNumber.stimulus_of}
use Rattle.cl_stim.specs.{AnyStimulus.as_stimulus, Stimulus.IsStimulus}
use Rattle.cl_stim.proofs.ValidStimuli.{has_stimulus}
use Rattle.cl_tune.proofs.Timings.{taken_at, taken_is}
use Rattle.cl_tune.proofs.fitting.above_of.Goals as goal

pub of-requires : goal.of-requires
of-requires c =
    subst (λ (k : StimulusKind). IsStimulus k) (sym c.stimulus_of.ensures) (has_stimulus c.args.model.now c.requires.valid c.args.task c.requires.task)

pub returns : goal.returns
returns c =
    let stimulus : c.of.result ≡ as_stimulus (stimulus_of c.args.model.now c.args.task) =
    c.of.ensures ∙ ap (λ (k : StimulusKind). as_stimulus k) c.stimulus_of.ensures in
    let time = c.time_of.ensures in
    let taken : record { stimulus = c.of.result; time = c.time_of.result } ≡ taken_at c.args.model.now c.args.task = cc in
    taken ∙ sym (taken_is c.args.model.now c.args.task c.requires.task)
