use Rattle.std.proofs.Common.{sym, ap, ◌∙◌, arith}
use Rattle.std.proofs.lemmas.Bool.{true≢false}
use Rattle.std.proofs.lemmas.List.{get_or_default}
use Rattle.cl_margin.specs.{declared.allowed.Allowed.Allowed, Inner.{Allowing.{any_allowed, most_bounds, allows}, Touched.touches_chain}}
use Rattle.cl_margin.proofs.{AskedItems.{are_allowed, keeps_any}, StaysMet.requirement_untouched}
use Rattle.cl_margin.proofs.searching.Search.ask_chain.Goals as goal

-- all is allowed of the chain
pub returns-then-is_any-clause-kept : goal.returns-then-is_any-clause-kept
returns-then-is_any-clause-kept g c =
    let model = c.args.standing.now.model.now in
    let most = c.args.standing.now.allowed.now in
    let are = are_allowed model c.args.standing.now.found.now c.args.standing.now.order.now most c.requires.standing in
    keeps_any model c.requires.standing.valid c.args.whose most are c.args.self.percent c.args.chain c.requires.chain
    (ap (λ (a : Allowed). allows a most_bounds) (get_or_default most c.args.chain any_allowed _ (omega (arith, c.requires.chain, are.one_a_chain))) ∙ sym c.is_any.ensures ∙ c.if-is_any.true)

-- the times change no bound of it
pub returns-then-not-touches_chain-clause-kept : goal.returns-then-not-touches_chain-clause-kept
returns-then-not-touches_chain-clause-kept g c =
    let model = c.args.standing.now.model.now in
    λ i h on met. requirement_untouched model c.requires.standing.valid c.args.whose c.args.self.percent c.requires.search.in_range i h
    (ap (touches_chain model c.args.whose) on ∙ sym c.touches_chain.ensures ∙ c.if-not-touches_chain.true) met

pub ask-requires-clause-met : goal.ask-requires-clause-met
ask-requires-clause-met g c =
    let most = c.args.standing.now.allowed.now in (
      get_or_default most c.args.chain _ any_allowed (omega (arith, c.requires.chain, c.requires.standing.allowed.one_a_chain)),
      λ any. true≢false (sym any ∙ sym c.is_any.ensures ∙ c.if-is_any.false),
    )
