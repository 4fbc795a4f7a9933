use Rattle.std.proofs.Common.{sym, ap, ◌∙◌}
use Rattle.cl_model.specs.declared.model.SystemModel.{SystemModel}
use Rattle.cl_edit.proofs.ResolvedEdits.{stimulus_set}
use Rattle.cl_edit.proofs.resolve.stimulus.Goals as goal

-- the edit sets the kind that it finds
pub returns-in-Some-kind_with : goal.returns-in-Some-kind_with
returns-in-Some-kind_with c =
    stimulus_set c.args.model.now c.args.name.now c.args.edit.now c.as_slice-stimuli.result.now c.in-Some.stimulus c.index-stimuli-stimulus.result
    (c.as_slice-stimuli.ensures ∙ ap (λ (m : SystemModel). m.stimuli) c.plain.ensures.plain) (sym c.in-Some.ensures.number) c.in-Some-kind_with.kind c.in-Some-kind_with.ensures
