use Rattle.std.proofs.Common.{ℕ, ◌+◌, ◌/◌, refl, sym, ap, ◌∙◌, subst, arith}
use Rattle.cl_model.specs.declared.model.SystemModel.{SystemModel}
use Rattle.cl_margin.specs.Inner.Searches.{holds, FitsItem}
use Rattle.cl_margin.proofs.{AskedItems.{trial_itself, trial_kept, item_of, item_grown, are_allowed, kept_where, fails_where}, Halving.{halved_first, between_in_range, halved_kept, halved_fails, halved_last}}
use Rattle.cl_margin.proofs.searching.Search.ask.Goals as goal

pub holds-requires-clause-trial : goal.holds-requires-clause-trial
holds-requires-clause-trial g c = trial_itself _ c.args.self.trial c.requires.search.trial

pub holds-requires-clause-item : goal.holds-requires-clause-item
holds-requires-clause-item g c =
    item_of c.args.self.trial.model _ c.args.item c.requires.search.trial.is
    (item_grown c.args.standing.now.model.now c.args.whose c.args.self.percent c.args.item c.requires.item)

-- it holds at the percentage
pub returns-then-branch-clause-kept : goal.returns-then-branch-clause-kept
returns-then-branch-clause-kept g c =
    let model = c.args.standing.now.model.now in
    let are = are_allowed model c.args.standing.now.found.now c.args.standing.now.order.now c.args.standing.now.allowed.now c.requires.standing in
    kept_where model c.requires.standing.valid c.args.whose c.args.standing.now.allowed.now are c.args.self.percent c.args.item c.requires.item c.requires.met
    (ap (holds c.args.item) (sym c.requires.search.trial.is) ∙ sym c.in_ok-holds.ensures.holds ∙ c.if-branch.true)

-- it doesn't hold there
pub loop-end-init : goal.loop-end-init
loop-end-init g c =
    let model = c.args.standing.now.model.now in
    let most = c.args.standing.now.allowed.now in
    let is = c.requires.search.trial.is in
    let are = are_allowed model c.args.standing.now.found.now c.args.standing.now.order.now most c.requires.standing in
    halved_first model c.requires.standing.valid c.args.whose most c.args.item c.requires.met c.args.self c.requires.search c.holds.new.trial
    (trial_kept _ c.args.self.trial c.holds.new.trial c.requires.search.trial c.holds.ensures.trial)
    (fails_where model c.requires.standing.valid c.args.whose most are c.args.self.percent c.args.item c.requires.item c.requires.met
    (subst (λ (m : SystemModel). FitsItem c.args.item m) is c.in_ok-holds.ensures.fits)
    (ap (holds c.args.item) (sym is) ∙ sym c.in_ok-holds.ensures.holds ∙ c.if-branch.false))

pub at-trial-requires-clause-in_range : goal.at-trial-requires-clause-in_range
at-trial-requires-clause-in_range g c =
    between_in_range c.args.standing.now.model.now c.requires.standing.valid c.args.whose c.args.standing.now.allowed.now c.args.item c.requires.met c.args.self c.requires.search
    c.loop-end.kept c.loop-end.end c.loop-end.trial c.loop-end.invariant ((c.loop-end.kept + c.loop-end.end) / 2) (omega (arith, c.loop-end.invariant.apart))

pub holds-requires-in-loop-end-clause-item : goal.holds-requires-in-loop-end-clause-item
holds-requires-in-loop-end-clause-item g c =
    item_of c.at-trial.result.model _ c.args.item c.at-trial.ensures.is
    (item_grown c.args.standing.now.model.now c.args.whose ((c.loop-end.kept + c.loop-end.end) / 2) c.args.item c.requires.item)

-- it holds in the middle
pub loop-end-preserved-then-branch-2 : goal.loop-end-preserved-then-branch-2
loop-end-preserved-then-branch-2 g c =
    let model = c.args.standing.now.model.now in
    let most = c.args.standing.now.allowed.now in
    let middle : ℕ = (c.loop-end.kept + c.loop-end.end) / 2 in
    let are = are_allowed model c.args.standing.now.found.now c.args.standing.now.order.now most c.requires.standing in
    halved_kept model c.requires.standing.valid c.args.whose most c.args.item c.requires.met c.args.self c.requires.search
    c.loop-end.kept c.loop-end.end c.loop-end.trial c.loop-end.invariant middle c.holds-in-loop-end.new.trial
    (omega (arith, c.loop-end.invariant.apart)) (omega (arith, c.loop-end-test.true))
    (trial_kept _ c.at-trial.result c.holds-in-loop-end.new.trial c.at-trial.ensures c.holds-in-loop-end.ensures.trial)
    (kept_where model c.requires.standing.valid c.args.whose most are middle c.args.item c.requires.item c.requires.met
    (ap (holds c.args.item) (sym c.at-trial.ensures.is) ∙ sym c.in_ok-holds-2.ensures.holds ∙ c.if-branch-2.true))

-- or it doesn't
pub loop-end-preserved : goal.loop-end-preserved
loop-end-preserved g c =
    let model = c.args.standing.now.model.now in
    let most = c.args.standing.now.allowed.now in
    let middle : ℕ = (c.loop-end.kept + c.loop-end.end) / 2 in
    let are = are_allowed model c.args.standing.now.found.now c.args.standing.now.order.now most c.requires.standing in
    halved_fails model c.requires.standing.valid c.args.whose most c.args.item c.requires.met c.args.self c.requires.search
    c.loop-end.kept c.loop-end.end c.loop-end.trial c.loop-end.invariant middle c.holds-in-loop-end.new.trial
    (omega (arith, c.loop-end-test.true)) (omega (arith, c.loop-end.invariant.apart))
    (trial_kept _ c.at-trial.result c.holds-in-loop-end.new.trial c.at-trial.ensures c.holds-in-loop-end.ensures.trial)
    (fails_where model c.requires.standing.valid c.args.whose most are middle c.args.item c.requires.item c.requires.met
    (subst (λ (m : SystemModel). FitsItem c.args.item m) c.at-trial.ensures.is c.in_ok-holds-2.ensures.fits)
    (ap (holds c.args.item) (sym c.at-trial.ensures.is) ∙ sym c.in_ok-holds-2.ensures.holds ∙ c.if-branch-2.false))

pub at-requires-clause-in_range : goal.at-requires-clause-in_range
at-requires-clause-in_range g c =
    between_in_range c.args.standing.now.model.now c.requires.standing.valid c.args.whose c.args.standing.now.allowed.now c.args.item c.requires.met c.args.self c.requires.search
    c.loop-end.kept c.loop-end.end c.loop-end.trial c.loop-end.invariant c.loop-end.kept (omega (arith, c.loop-end.invariant.apart))

-- the ends have met
pub returns-clause-search : goal.returns-clause-search
returns-clause-search g c =
    halved_last c.args.standing.now.model.now c.requires.standing.valid c.args.whose c.args.standing.now.allowed.now c.args.item c.requires.met c.args.self c.requires.search
    c.loop-end.kept c.loop-end.end c.loop-end.trial c.loop-end.invariant (omega (arith, c.loop-end-test.false)) (record { percent = c.loop-end.kept; trial = c.at.result }) refl c.at.ensures

pub returns-clause-kept : goal.returns-clause-kept
returns-clause-kept g c = c.loop-end.invariant.kept
