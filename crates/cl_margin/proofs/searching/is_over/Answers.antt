use Rattle.std.proofs.Common.{ℕ, not, sym, ap, ◌∙◌, arith}
use Rattle.cl_model.specs.{declared.model.SystemModel.SystemModel, ByNumber.no_requirement}
use Rattle.cl_runs.specs.Requirements.{required_chain}
use Rattle.cl_tight.proofs.TightLists.{required_known}
use Rattle.cl_margin.specs.Inner.Touched.{touches_chain}
use Rattle.cl_margin.proofs.{MetByBounds.is_within, NewlyBroken.{over_where, requirement_read, requirement_kept, chain_known, found_within}}
use Rattle.cl_margin.proofs.searching.is_over.Goals as goal

pub touches_chain-requires-clause-chain : goal.touches_chain-requires-clause-chain
touches_chain-requires-clause-chain g c =
    let model = c.args.standing.now.model.now in
    let i : ℕ = c.args.requirement in
    let own = c.index-as_slice-requirement.result in
    let at = requirement_read model i c.requires.requirement c.as_slice.result.now
    (c.as_slice.ensures ∙ ap (λ (m : SystemModel). m.requirements) c.plain.ensures.plain) own c.index-as_slice-requirement.is in
    let known = required_known model c.requires.standing.valid i no_requirement c.requires.requirement in
    omega (arith, c.chain_of-chain.ensures, ap (required_chain model) at, known)

pub returns-then-not-touches_chain-clause-over : goal.returns-then-not-touches_chain-clause-over
returns-then-not-touches_chain-clause-over g c =
    let model = c.args.standing.now.model.now in
    let own = c.index-as_slice-requirement.result in
    let at = requirement_read model c.args.requirement c.requires.requirement c.as_slice.result.now
    (c.as_slice.ensures ∙ ap (λ (m : SystemModel). m.requirements) c.plain.ensures.plain) own c.index-as_slice-requirement.is in
    let same = ap (touches_chain model c.args.whose) (c.chain_of-chain.ensures ∙ ap (required_chain model) at) in
    let out = sym same ∙ sym c.touches_chain.ensures ∙ c.if-not-touches_chain.true in
    sym (ap not (requirement_kept model c.requires.standing.valid c.args.whose c.requires.percent.0 c.args.trial.now c.requires.percent.1
    c.requires.in_range c.args.requirement c.requires.requirement out c.requires.met))

pub bound-requires-clause-chain : goal.bound-requires-clause-chain
bound-requires-clause-chain g c =
    let model = c.args.standing.now.model.now in
    let i : ℕ = c.args.requirement in
    let own = c.index-as_slice-requirement.result in
    let at = requirement_read model i c.requires.requirement c.as_slice.result.now
    (c.as_slice.ensures ∙ ap (λ (m : SystemModel). m.requirements) c.plain.ensures.plain) own c.index-as_slice-requirement.is in
    let known = required_known model c.requires.standing.valid i no_requirement c.requires.requirement in
    chain_known model c.requires.standing.valid c.args.whose c.requires.percent.0 c.args.trial.now c.requires.percent.1 c.requires.in_range
    c.chain_of-chain.result (omega (arith, c.chain_of-chain.ensures, ap (required_chain model) at, known))

pub returns-in-Some-clause-over : goal.returns-in-Some-clause-over
returns-in-Some-clause-over g c =
    let model = c.args.standing.now.model.now in
    let own = c.index-as_slice-requirement.result in
    let at = requirement_read model c.args.requirement c.requires.requirement c.as_slice.result.now
    (c.as_slice.ensures ∙ ap (λ (m : SystemModel). m.requirements) c.plain.ensures.plain) own c.index-as_slice-requirement.is in
    over_where c.in-Some.bound own.most
    ∙ ap not (sym (found_within model c.requires.standing.valid c.args.whose c.requires.percent.0 c.args.trial.now c.requires.percent.1
    c.requires.in_range c.args.requirement c.requires.requirement own at c.chain_of-chain.result c.chain_of-chain.ensures
    c.in_ok-bound.field-0 c.in_ok-bound.ensures.answer ∙ ap (is_within own.most) (sym c.required.ensures ∙ c.in-Some.is)))

pub returns-in-None-clause-over : goal.returns-in-None-clause-over
returns-in-None-clause-over g c =
    let model = c.args.standing.now.model.now in
    let own = c.index-as_slice-requirement.result in
    let at = requirement_read model c.args.requirement c.requires.requirement c.as_slice.result.now
    (c.as_slice.ensures ∙ ap (λ (m : SystemModel). m.requirements) c.plain.ensures.plain) own c.index-as_slice-requirement.is in
    sym (ap not (found_within model c.requires.standing.valid c.args.whose c.requires.percent.0 c.args.trial.now c.requires.percent.1
    c.requires.in_range c.args.requirement c.requires.requirement own at c.chain_of-chain.result c.chain_of-chain.ensures
    c.in_ok-bound.field-0 c.in_ok-bound.ensures.answer ∙ ap (is_within own.most) (sym c.required.ensures ∙ c.in-None.is)))
