use Rattle.std.proofs.Common.{length, sym, ap, ◌∙◌, arith}
use Rattle.std.proofs.lemmas.Result.{IfOk-weaker}
use Rattle.cl_tight.specs.declared.findings.TightFindings.{TightFindings}
use Rattle.cl_margin.specs.Margins.{is_met_requirement}
use Rattle.cl_margin.proofs.{MetByBounds.verdicts_found, NewlyBroken.{broken_where, never_broken}}
use Rattle.cl_margin.proofs.searching.is_newly_over.Goals as goal

pub has_requirement-requires : goal.has_requirement-requires
has_requirement-requires g c =
    let found = ap (λ (f : TightFindings). length f.verdicts) c.requires.standing.found in
    omega (arith, c.requires.requirement, found, verdicts_found c.args.standing.now.model.now)

pub returns-then-not-has_requirement-clause-over : goal.returns-then-not-has_requirement-clause-over
returns-then-not-has_requirement-clause-over g c =
    let found = ap (λ (f : TightFindings). is_met_requirement f c.args.requirement) c.requires.standing.found in
    never_broken _ _ (sym found ∙ sym c.has_requirement.ensures ∙ c.if-not-has_requirement.true)

pub is_over-requires-clause-met : goal.is_over-requires-clause-met
is_over-requires-clause-met g c =
    let found = ap (λ (f : TightFindings). is_met_requirement f c.args.requirement) c.requires.standing.found in
    sym found ∙ sym c.has_requirement.ensures ∙ c.if-not-has_requirement.false

pub returns-clause-over : goal.returns-clause-over
returns-clause-over g c =
    let found = ap (λ (f : TightFindings). is_met_requirement f c.args.requirement) c.requires.standing.found in
    let met = sym found ∙ sym c.has_requirement.ensures ∙ c.if-not-has_requirement.false in
    IfOk-weaker c.is_over.result _ _ (λ over is. broken_where over _ _ is met) c.is_over.ensures.over
