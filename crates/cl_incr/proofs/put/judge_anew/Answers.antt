use Rattle.std.proofs.Common.{◌≡◌, ◌<◌, None, List, get_or, set, length, sym, ap, ◌∙◌, arith, below_more}
use Rattle.std.proofs.lemmas.List.{get_or_default, get_or-set_same, get_or-set_other, length-map, length-set, ext_get_or}
use Rattle.cl_model.specs.{declared.{model.SystemModel.SystemModel, chain.RequirementDef.RequirementDef}, ByNumber.{no_requirement, requirement_at}}
use Rattle.cl_analyse.specs.{declared.findings.Verdict.TheVariants.Unshown, Verdicts.{verdict_at, verdict_of, verdicts_of}}
use Rattle.cl_incr.proofs.PutExacts.{verdict_there}
use Rattle.cl_incr.proofs.put.judge_anew.Goals as goal

pub loop-place-init : goal.loop-place-init
loop-place-init c = record { count = c.requires; each = λ k none. absurd (omega (arith, none)) }

pub loop-place-preserved : goal.loop-place-preserved
loop-place-preserved c =
    let model = c.args.model.now in
    let place = c.loop-place.place in
    let verdicts = c.loop-place.verdicts in
    let judged = c.index-all-place.result in
    let all : c.as_slice-all.result.now ≡ model.requirements = c.as_slice-all.ensures ∙ ap (λ (m : SystemModel). m.requirements) c.plain.ensures.plain in
    let known : c.loop-place.place < length c.args.model.now.requirements = omega (arith, c.loop-place-test.true, ap length all) in
    let is : judged ≡ requirement_at model place
    = c.index-all-place.is ∙ ap (λ (l : List RequirementDef). get_or l place judged) all ∙ get_or_default model.requirements place judged no_requirement known in
    record {
      count = length-set verdicts place c.judge.result ∙ c.loop-place.invariant.count;
      each = below_more (λ k. verdict_at (set verdicts place c.judge.result) k ≡ verdict_at (verdicts_of model c.args.chains.now c.args.exacts.now) k) place
          (λ k below. get_or-set_other verdicts place k c.judge.result (Unshown None) (λ same. omega (arith, below, same)) ∙ c.loop-place.invariant.each k below)
          (get_or-set_same verdicts place c.judge.result (Unshown None) (omega (arith, known, c.loop-place.invariant.count))
          ∙ c.judge.ensures ∙ ap (verdict_of model c.args.chains.now c.args.exacts.now) is ∙ sym (verdict_there model c.args.chains.now c.args.exacts.now place known));
    }

pub returns : goal.returns
returns c =
    let model = c.args.model.now in
    let verdicts = verdicts_of model c.args.chains.now c.args.exacts.now in
    let whole : length verdicts ≡ length model.requirements = length-map model.requirements (verdict_of model c.args.chains.now c.args.exacts.now) in
    let all : c.as_slice-all.result.now ≡ model.requirements = c.as_slice-all.ensures ∙ ap (λ (m : SystemModel). m.requirements) c.plain.ensures.plain in
    ext_get_or (Unshown None) c.loop-place.verdicts verdicts (c.loop-place.invariant.count ∙ sym whole)
    (λ k within. c.loop-place.invariant.each k (omega (arith, within, c.loop-place.invariant.count, c.loop-place-test.false, ap length all)))
