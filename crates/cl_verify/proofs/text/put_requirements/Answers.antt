use Rattle.std.proofs.Common.{ℕ, ◌<◌, ◌++◌, length, sym, ap, ◌∙◌, arith}
use Rattle.cl_model.specs.{declared.chain.RequirementDef.RequirementDef, ByNumber.requirement_at}
use Rattle.cl_text.proofs.MoreLines.{line_more}
use Rattle.cl_report.proofs.ReportLines.{requirement_found}
use Rattle.cl_verify.specs.{declared.decision.Decision.Decision, Decisions.decision_at, VerifyText.decision_line}
use Rattle.cl_verify.proofs.DecisionLines.{decision_found, late_known}
use Rattle.cl_verify.proofs.text.put_requirements.Goals as goal

pub put_requirement-requires : goal.put_requirement-requires
put_requirement-requires c =
    let i = c.loop-place.place in
    let within : i < length c.args.model.now.requirements = rw (c.as_slice-requirements.ensures, c.plain.ensures.plain) at c.loop-place-test.true in
    let found = decision_found c.args.decisions.now c.as_slice.result.now i _ (omega (arith, within, c.requires.as_many)) c.as_slice.ensures in
    λ late named. late_known c.args.model.now c.plain.ensures.valid c.args.decisions.now c.requires i within late (sym found ∙ named)

pub loop-place-preserved : goal.loop-place-preserved
loop-place-preserved c =
    let i = c.loop-place.place in
    let within : i < length c.args.model.now.requirements = rw (c.as_slice-requirements.ensures, c.plain.ensures.plain) at c.loop-place-test.true in
    let asked = requirement_found c.args.model.now i c.index-requirements-place.result within
    (rw (c.as_slice-requirements.ensures, c.plain.ensures.plain) at c.index-requirements-place.is) in
    let found = decision_found c.args.decisions.now c.as_slice.result.now i _ (omega (arith, within, c.requires.as_many)) c.as_slice.ensures in
    line_more (λ (n : ℕ). decision_line c.args.model.now (requirement_at c.args.model.now n) (decision_at c.args.decisions.now n))
    c.args.text.now c.loop-place.text c.put_requirement.new.text i c.loop-place.invariant
    (c.in_ok-put_requirement.ensures
    ∙ ap (λ (decision : Decision). c.loop-place.text ++ decision_line c.args.model.now c.index-requirements-place.result decision) found
    ∙ ap (λ (required : RequirementDef). c.loop-place.text ++ decision_line c.args.model.now required (decision_at c.args.decisions.now i)) asked)
