use Rattle.std.proofs.Common.{◌≡◌, ℕ, ◌+◌, ◌<◌, List, None, length, get_or, set, sym, ap, ◌∙◌, subst, arith}
use Rattle.std.proofs.lemmas.List.{get_or_default}
use Rattle.cl_model.specs.{declared.{chain.RequirementDef.RequirementDef, model.SystemModel.SystemModel}, ByNumber.{no_requirement, requirement_at}}
use Rattle.cl_runs.specs.Requirements.{required_chain}
use Rattle.cl_analyse.specs.{declared.findings.Verdict.TheVariants.{Met, Unshown}, Verdicts.is_met}
use Rattle.cl_tight.proofs.TightLists.{required_known}
use Rattle.cl_margin.specs.{declared.allowed.Allowed.Allowed, Inner.Allowing.{with_most, allowed_at}}
use Rattle.cl_margin.proofs.{AllowedBounds.{AreAllowedBy, met_more, unmet_more, all_allowed}, allowed.allowed_of.Goals.{then-is_met, else-is_met}}
use Rattle.cl_margin.proofs.allowed.allowed_of.Goals as goal

pub narrow-requires : goal.narrow-requires
narrow-requires c =
    let model = c.args.model.now in
    let i : ℕ = c.loop-i.i in
    let own = c.index-requirements-i.result in
    let same = c.as_slice-requirements.ensures ∙ ap (λ (m : SystemModel). m.requirements) c.plain.ensures.plain in
    let within : i < length model.requirements = omega (arith, c.loop-i-test.true, ap length same) in
    let at = c.index-requirements-i.is ∙ ap (λ (list : List RequirementDef). get_or list i own) same in
    omega (
      arith,
      c.chain_of-chain.ensures,
      ap (required_chain model) at,
      required_known model c.plain.ensures.valid i own within,
      c.loop-i.invariant.one_a_chain,
    )

pub loop-i-preserved : goal.loop-i-preserved
loop-i-preserved c =
    let model = c.args.model.now in
    let verdicts = c.args.verdicts.now in
    let i : ℕ = c.loop-i.i in
    let by = c.loop-i.invariant in
    let count = ap length (c.as_slice-requirements.ensures ∙ ap (λ (m : SystemModel). m.requirements) c.plain.ensures.plain) in
    let judged : i < length verdicts = omega (arith, c.loop-i-test.true, count, c.requires) in
    let reads = ap is_met (get_or_default verdicts i (Unshown None) (Met 0) judged) in
    elim c.if-is_met.branch [
      | then-is_met w ↦
          let own = w.index-requirements-i.result in
          let same = c.as_slice-requirements.ensures ∙ ap (λ (m : SystemModel). m.requirements) c.plain.ensures.plain in
          let within : i < length model.requirements = omega (arith, c.loop-i-test.true, ap length same) in
          let at : own ≡ requirement_at model i =
          w.index-requirements-i.is ∙ ap (λ (list : List RequirementDef). get_or list i own) same ∙ get_or_default model.requirements i own no_requirement within in
          let made = w.allowed-is ∙ w.narrow.ensures
          ∙ ap (λ chain. set c.loop-i.allowed chain (with_most own.kind own.most (allowed_at c.loop-i.allowed chain))) w.chain_of-chain.ensures
          ∙ ap (λ (r : RequirementDef). set c.loop-i.allowed (required_chain model r) (with_most r.kind r.most (allowed_at c.loop-i.allowed (required_chain model r)))) at in
          subst (λ (list : List Allowed). AreAllowedBy model verdicts (i + 1) list) (sym made)
          (met_more model verdicts i c.loop-i.allowed by (reads ∙ sym c.is_met.ensures ∙ w.if-is_met.true))
      | else-is_met w ↦
          subst (λ (list : List Allowed). AreAllowedBy model verdicts (i + 1) list) (sym w.allowed-is)
          (unmet_more model verdicts i c.loop-i.allowed by (reads ∙ sym c.is_met.ensures ∙ w.if-is_met.false))
    ]

pub returns-clause-allowed : goal.returns-clause-allowed
returns-clause-allowed c =
    let model = c.args.model.now in
    let same = c.as_slice-requirements.ensures ∙ ap (λ (m : SystemModel). m.requirements) c.plain.ensures.plain in
    all_allowed model c.args.verdicts.now c.loop-i.i c.loop-i.allowed (omega (arith, c.loop-i-test.false, ap length same))
    (omega (arith, c.loop-i.auto.i-end, ap length same)) c.loop-i.invariant
