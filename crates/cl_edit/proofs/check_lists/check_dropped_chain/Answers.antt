use Rattle.std.proofs.Common.{sym, ap, ◌∙◌}
use Rattle.cl_model.specs.{declared.{chain.ChainDef.ChainDef, model.SystemModel.SystemModel}, Refusals.each}
use Rattle.cl_edit.specs.FewListChecks.{kept_chain_check}
use Rattle.cl_edit.proofs.{ChainChanges.dropped_chain_refused, FewAnswers.passes_as}
use Rattle.cl_edit.proofs.check_lists.check_dropped_chain.Goals as goal

pub returns : goal.returns
returns c =
    let model = c.args.model.now in
    passes_as c.check_requirements.result _ _
    (dropped_chain_refused model c.requires.valid c.args.chain c.requires.chain
    ∙ sym (ap (each (kept_chain_check c.chain.result.now.name)) (c.as_slice-requirements.ensures ∙ ap (λ (m : SystemModel). m.requirements) c.plain.ensures.plain)
    ∙ ap (λ (chain : ChainDef). each (kept_chain_check chain.name) model.requirements) c.chain.ensures.chain)) c.check_requirements.ensures
