use Rattle.std.proofs.Common.{ℕ, ◌<◌, Option, unwrap_or, length, sym, ap, ◌∙◌, subst}
use Rattle.cl_model.specs.declared.chain.RequirementDef.{RequirementDef}
use Rattle.cl_runs.specs.Requirements.{required_chain}
use Rattle.cl_tight.proofs.TightLists.{required_known}
use Rattle.cl_report.proofs.ReportLines.{requirement_found}
use Rattle.cl_why.proofs.ReasonTexts.{named_late_known, reason_of_requirement}
use Rattle.cl_why.proofs.reasons.why_requirement.Goals as goal

pub put_requirement-requires : goal.put_requirement-requires
put_requirement-requires c = λ late named.
    named_late_known c.args.model.now c.args.place c.in_ok-decision.decision late c.plain.ensures.valid c.requires.place c.in_ok-decision.ensures.decision named

pub put_reason_of_chain-requires-clause-chain : goal.put_reason_of_chain-requires-clause-chain
put_reason_of_chain-requires-clause-chain c =
    let model = c.args.model.now in
    let at = rw (c.as_slice.ensures, c.plain.ensures.plain) at c.index-as_slice-place.is in
    let same = c.unwrap_or-chain.ensures ∙ ap (λ (o : Option ℕ). unwrap_or o 0) c.chain_named.ensures.number in
    subst (λ (n : ℕ). n < length model.chains) (sym same)
    (subst (λ (required : RequirementDef). required_chain model required < length model.chains) (sym at)
    (required_known model c.plain.ensures.valid c.args.place c.index-as_slice-place.result c.requires.place))

pub returns : goal.returns
returns c =
    let model = c.args.model.now in
    let at = rw (c.as_slice.ensures, c.plain.ensures.plain) at c.index-as_slice-place.is in
    let asked = requirement_found model c.args.place c.index-as_slice-place.result c.requires.place at in
    let same = c.unwrap_or-chain.ensures ∙ ap (λ (o : Option ℕ). unwrap_or o 0) c.chain_named.ensures.number in
    reason_of_requirement model c.args.place c.unwrap_or-chain.result c.index-as_slice-place.result c.in_ok-decision.decision
    c.in_ok-text.text c.put_requirement.new.text c.put_reason_of_chain.new.text c.in_ok-text.ensures asked same c.in_ok-decision.ensures.decision
    c.in_ok-put_requirement.ensures c.in_ok-put_reason_of_chain.ensures.text
