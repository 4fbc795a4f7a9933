use Rattle.std.proofs.Common.{◌<◌, List, length, get_or, ap, ◌∙◌}
use Rattle.std.proofs.lemmas.List.{get_or_default}
use Rattle.cl_model.specs.{declared.{model.SystemModel.SystemModel, chain.RequirementDef.RequirementDef}, ByNumber.no_requirement}
use Rattle.cl_analyse.specs.Verdicts.{verdict_of}
use Rattle.cl_analyse.proofs.AnswerLists.{more_verdicts}
use Rattle.cl_analyse.proofs.judging.judge_all.Goals as goal

pub loop-requirement-preserved : goal.loop-requirement-preserved
loop-requirement-preserved c =
    let same = c.as_slice-requirement-items.ensures ∙ ap (λ (m : SystemModel). m.requirements) c.plain.ensures.plain in
    let within : c.loop-requirement.requirement-index < length c.args.model.now.requirements = rw (← same) c.loop-requirement-test.true in
    let at = ap (λ (list : List RequirementDef). get_or list c.loop-requirement.requirement-index c.requirement-item.result) same in
    more_verdicts c.args.model.now c.args.chains.now c.args.exacts.now c.loop-requirement.requirement-index c.loop-requirement.verdicts c.push.new.self c.judge.result within
    c.loop-requirement.invariant
    (c.judge.ensures ∙ ap (verdict_of c.args.model.now c.args.chains.now c.args.exacts.now)
    (c.requirement-item.is ∙ at ∙ get_or_default c.args.model.now.requirements c.loop-requirement.requirement-index c.requirement-item.result no_requirement within))
    c.in_ok-push.ensures.ok
