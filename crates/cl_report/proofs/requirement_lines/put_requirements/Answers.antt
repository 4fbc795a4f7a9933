use Rattle.std.proofs.Common.{ℕ, ◌<◌, ◌++◌, length, get_or, ap, subst, ◌∙◌, arith}
use Rattle.cl_model.specs.{declared.chain.RequirementDef.RequirementDef, ByNumber.requirement_at}
use Rattle.cl_analyse.specs.{declared.findings.Verdict.{Verdict, TheVariants.Met}, Verdicts.verdict_at}
use Rattle.cl_text.specs.Beginnings.{PutsPart}
use Rattle.cl_text.proofs.{Beginnings.{puts_lines, on_error}, MoreLines.line_more}
use Rattle.cl_report.specs.Report.{verdict_line}
use Rattle.cl_report.proofs.ReportLines.{requirement_found, verdict_found}
use Rattle.cl_report.proofs.requirement_lines.put_requirements.Goals as goal

pub loop-place-preserved : goal.loop-place-preserved
loop-place-preserved c =
    let i = c.loop-place.place in
    let within : i < length c.args.model.now.requirements = rw (c.as_slice-requirements.ensures, c.plain.ensures.plain) at c.loop-place-test.true in
    let asked = requirement_found c.args.model.now i c.index-requirements-place.result within (rw (c.as_slice-requirements.ensures, c.plain.ensures.plain) at c.index-requirements-place.is) in
    let judged = verdict_found c.args.verdicts.now c.as_slice.result.now i (omega (arith, within, c.requires)) c.as_slice.ensures in
    line_more (λ (n : ℕ). verdict_line (requirement_at c.args.model.now n) (verdict_at c.args.verdicts.now n)) c.args.text.now c.loop-place.text c.put_requirement.new.text i c.loop-place.invariant
    (c.in_ok-put_requirement.ensures.ok
    ∙ ap (λ (requirement : RequirementDef). c.loop-place.text ++ verdict_line requirement (get_or c.as_slice.result.now i (Met 0))) asked
    ∙ ap (λ (verdict : Verdict). c.loop-place.text ++ verdict_line (requirement_at c.args.model.now i) verdict) judged)

pub returns-in_err-put_requirement-clause-err : goal.returns-in_err-put_requirement-clause-err
returns-in_err-put_requirement-clause-err c =
    let i = c.loop-place.place in
    let within : i < length c.args.model.now.requirements = rw (c.as_slice-requirements.ensures, c.plain.ensures.plain) at c.loop-place-test.true in
    let asked = requirement_found c.args.model.now i c.index-requirements-place.result within (rw (c.as_slice-requirements.ensures, c.plain.ensures.plain) at c.index-requirements-place.is) in
    let judged = verdict_found c.args.verdicts.now c.as_slice.result.now i (omega (arith, within, c.requires)) c.as_slice.ensures in
    let own = subst (λ (requirement : RequirementDef). PutsPart c.loop-place.text c.put_requirement.new.text (verdict_line requirement (get_or c.as_slice.result.now i (Met 0))))
    asked c.in_err-put_requirement.ensures.err in
    on_error c.from_residual.result _
    (puts_lines (λ (n : ℕ). verdict_line (requirement_at c.args.model.now n) (verdict_at c.args.verdicts.now n)) c.args.text.now c.loop-place.text
    c.put_requirement.new.text i (length c.args.model.now.requirements) within c.loop-place.invariant
    (subst (λ (verdict : Verdict). PutsPart c.loop-place.text c.put_requirement.new.text (verdict_line (requirement_at c.args.model.now i) verdict)) judged own))
