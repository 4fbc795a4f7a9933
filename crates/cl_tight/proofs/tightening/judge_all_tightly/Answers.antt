use Rattle.std.proofs.Common.{◌<◌, List, length, get_or, sym, ap, ◌∙◌, subst}
use Rattle.std.proofs.lemmas.List.{get_or_default}
use Rattle.cl_model.specs.{declared.{model.SystemModel.SystemModel, chain.RequirementDef.RequirementDef}, ByNumber.no_requirement}
use Rattle.cl_runs.specs.Requirements.{required_chain}
use Rattle.cl_tight.specs.TightFindings.{tight_verdict_of}
use Rattle.cl_tight.proofs.TightLists.{more_verdicts, required_known}
use Rattle.cl_tight.proofs.tightening.judge_all_tightly.Goals as goal

pub judge_tightly-requires-clause-known : goal.judge_tightly-requires-clause-known
judge_tightly-requires-clause-known c =
    let same = c.as_slice-requirement-items.ensures ∙ ap (λ (m : SystemModel). m.requirements) c.plain.ensures.plain in
    let within : c.loop-requirement.requirement-index < length c.args.model.now.requirements = rw (← same) c.loop-requirement-test.true in
    let at = ap (λ (list : List RequirementDef). get_or list c.loop-requirement.requirement-index c.requirement-item.result) same in
    subst (λ (r : RequirementDef). required_chain c.args.model.now r < length c.args.model.now.chains) (sym (c.requirement-item.is ∙ at))
    (required_known c.args.model.now c.plain.ensures.valid c.loop-requirement.requirement-index c.requirement-item.result within)

pub loop-requirement-preserved : goal.loop-requirement-preserved
loop-requirement-preserved c =
    let same = c.as_slice-requirement-items.ensures ∙ ap (λ (m : SystemModel). m.requirements) c.plain.ensures.plain in
    let within : c.loop-requirement.requirement-index < length c.args.model.now.requirements = rw (← same) c.loop-requirement-test.true in
    let at = ap (λ (list : List RequirementDef). get_or list c.loop-requirement.requirement-index c.requirement-item.result) same in
    more_verdicts c.args.model.now c.args.chains.now c.loop-requirement.requirement-index c.loop-requirement.verdicts c.push.new.self c.judge_tightly.result within
    c.loop-requirement.invariant
    (c.judge_tightly.ensures ∙ ap (tight_verdict_of c.args.model.now c.args.chains.now)
    (c.requirement-item.is ∙ at ∙ get_or_default c.args.model.now.requirements c.loop-requirement.requirement-index c.requirement-item.result no_requirement within))
    c.in_ok-push.ensures.ok
