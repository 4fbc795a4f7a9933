use Rattle.std.proofs.Common.{sym, ap, ◌∙◌}
use Rattle.std.specs.Option.{option_copied}
use Rattle.cl_model.specs.{declared.stimulus.StimulusDef.StimulusDef, Named.same_name, Ranges.IsKindInRange}
use Rattle.cl_advice.proofs.FirstOf.{all_found}
use Rattle.cl_advice.proofs.measured.kind_for.Goals as goal

pub returns-in-Some-clause-in_range : goal.returns-in-Some-clause-in_range
returns-in-Some-clause-in_range c = λ in_range.
    all_found (λ (stimulus : StimulusDef). IsKindInRange stimulus.kind) (λ (stimulus : StimulusDef). same_name c.args.task.now.stimulus stimulus.name)
    c.args.model.now.stimuli c.in-Some.stimulus.now in_range.stimuli (sym c.stimulus_with.ensures ∙ ap option_copied c.in-Some.is)
