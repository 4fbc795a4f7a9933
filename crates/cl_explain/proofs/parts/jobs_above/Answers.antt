use Rattle.std.proofs.Common.{sym, ap, ◌∙◌, subst}
use Rattle.cl_model.specs.declared.stimulus.StimulusKind.{StimulusKind}
use Rattle.cl_stim.specs.{declared.any_stimulus.AnyStimulus.AnyStimulus, AnyStimulus.kind_of, Releases.most_releases, Stimulus.IsStimulus}
use Rattle.cl_stim.proofs.ValidStimuli.{has_stimulus}
use Rattle.cl_explain.proofs.TasksByNumber.{jobs_are}
use Rattle.cl_explain.proofs.parts.jobs_above.Goals as goal

pub of-requires : goal.of-requires
of-requires c =
    subst (λ (k : StimulusKind). IsStimulus k) (sym c.stimulus_of.ensures) (has_stimulus c.args.model.now c.requires.valid c.args.other c.requires.other)

pub returns : goal.returns
returns c = jobs_are c.args.model.now c.args.other c.requires.other c.args.width c.most.result c.stimulus_of.result c.stimulus_of.ensures
    (c.most.ensures.most ∙ ap (λ (s : AnyStimulus). most_releases (kind_of s) c.args.width) c.of.ensures)
