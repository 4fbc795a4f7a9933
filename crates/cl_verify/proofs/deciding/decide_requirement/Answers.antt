use Rattle.std.proofs.Common.{◌≡◌, ℕ, ◌<◌, List, length, get_or, sym, ap, ◌∙◌, subst, arith}
use Rattle.std.specs.Prelude.{None}
use Rattle.std.proofs.lemmas.List.{get_or_default}
use Rattle.cl_model.specs.declared.{model.SystemModel.SystemModel, chain.RequirementDef.RequirementDef}
use Rattle.cl_runs.specs.Requirements.{required_chain}
use Rattle.cl_analyse.specs.{declared.findings.Verdict.{Verdict, TheVariants.Unshown}, Verdicts.verdict_at}
use Rattle.cl_tight.specs.{declared.findings.TightFindings.TightFindings, TightFindings.tight_findings_of}
use Rattle.cl_tight.proofs.{TightLists.required_known, TightLengths.tight_verdicts_found}
use Rattle.cl_report.proofs.ReportLines.{requirement_found}
use Rattle.cl_verify.proofs.ByFindings.{met_decided, broken_decided, unshown_decided}
use Rattle.cl_verify.proofs.deciding.decide_requirement.Goals as goal

pub bounds-as_slice-place : goal.bounds-as_slice-place
bounds-as_slice-place c = rw (c.as_slice.ensures, c.plain.ensures.plain) c.requires.place

pub bounds-as_slice-place-2 : goal.bounds-as_slice-place-2
bounds-as_slice-place-2 c =
    omega (arith, c.requires.place, ap length c.as_slice-2.ensures, tight_verdicts_found c.args.model.now c.args.findings.now c.requires.findings)

pub decide_by_runs-requires-clause-chain : goal.decide_by_runs-requires-clause-chain
decide_by_runs-requires-clause-chain c =
    let model = c.args.model.now in
    let at = rw (c.as_slice.ensures, c.plain.ensures.plain) at c.index-as_slice-place.is in
    subst (λ (required : RequirementDef). required_chain model required < length model.chains) (sym at)
    (required_known model c.plain.ensures.valid c.args.place c.index-as_slice-place.result c.requires.place)

-- the verdict at a place, as it is found in the list
module _ (model : SystemModel) (findings : TightFindings) (is : findings ≡ tight_findings_of model) (slice : List Verdict) (same : slice ≡ findings.verdicts)
    (place : ℕ) (within : place < length model.requirements) (other : Verdict) where
  found_here : get_or slice place other ≡ verdict_at findings.verdicts place
  found_here =
      ap (λ (verdicts : List Verdict). get_or verdicts place other) same
      ∙ get_or_default findings.verdicts place other (Unshown None) (omega (arith, within, tight_verdicts_found model findings is))

  found_is : get_or slice place other ≡ verdict_at (tight_findings_of model).verdicts place
  found_is = found_here ∙ ap (λ (f : TightFindings). verdict_at f.verdicts place) is

pub returns-in-Met-clause-decision : goal.returns-in-Met-clause-decision
returns-in-Met-clause-decision c =
    met_decided c.args.model.now c.args.place _
    (found_is c.args.model.now c.args.findings.now c.requires.findings c.as_slice-2.result.now c.as_slice-2.ensures c.args.place c.requires.place _)
    c.in-Met.value c.in-Met.is

pub returns-in-Broken-clause-decision : goal.returns-in-Broken-clause-decision
returns-in-Broken-clause-decision c =
    broken_decided c.args.model.now c.args.place _
    (found_is c.args.model.now c.args.findings.now c.requires.findings c.as_slice-2.result.now c.as_slice-2.ensures c.args.place c.requires.place _)
    c.in-Broken.value c.in-Broken.is
    (c.requires.safe.broken c.args.place c.in-Broken.value c.requires.place
    (sym (found_here c.args.model.now c.args.findings.now c.requires.findings c.as_slice-2.result.now c.as_slice-2.ensures c.args.place c.requires.place _)
    ∙ c.in-Broken.is))

pub returns-in-Unshown-clause-decision : goal.returns-in-Unshown-clause-decision
returns-in-Unshown-clause-decision c =
    let model = c.args.model.now in
    let at = rw (c.as_slice.ensures, c.plain.ensures.plain) at c.index-as_slice-place.is in
    unshown_decided model c.args.place _
    (found_is model c.args.findings.now c.requires.findings c.as_slice-2.result.now c.as_slice-2.ensures c.args.place c.requires.place _)
    c.in-Unshown.value c.in-Unshown.is c.requires.place c.index-as_slice-place.result
    (requirement_found model c.args.place c.index-as_slice-place.result c.requires.place at) c.decide_by_runs.result c.decide_by_runs.ensures.decision
