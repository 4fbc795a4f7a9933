use Rattle.std.proofs.Common.{refl, sym, subst}
use Rattle.std.specs.Prelude.{IfSome, IfNone}
use Rattle.cl_model.specs.declared.model.SystemModel.{SystemModel}
use Rattle.cl_margin.specs.{Margins.{KeepsMet, BreaksFirst}, Inner.Touched.IsMostInRange}
use Rattle.cl_margin.proofs.SearchEnds.{best_where, margin_limit, more_in_range, margin_broken}
use Rattle.cl_margin.proofs.searching.Search.end.Goals as goal

pub at-trial-requires-clause-in_range : goal.at-trial-requires-clause-in_range
at-trial-requires-clause-in_range g c =
    let model = c.args.standing.now.model.now in
    let best = best_where model c.args.whose c.args.self.percent c.args.self refl c.requires.search c.requires.kept in
    (more_in_range model c.args.whose c.args.self.percent best c.requires.standing.valid c.most_percent.result c.most_percent.ensures (λ same. absurd (c.if-percent-most_percent.false same))).0

pub returns-then-percent-most_percent-clause-margin : goal.returns-then-percent-most_percent-clause-margin
returns-then-percent-most_percent-clause-margin g c =
    let model = c.args.standing.now.model.now in
    let best = best_where model c.args.whose c.args.self.percent c.args.self refl c.requires.search c.requires.kept in
    margin_limit model c.args.whose c.args.self.percent best c.if-percent-eq-MOST_PERCENT.false
    (subst (λ n. IsMostInRange model c.args.whose n) (sym c.if-percent-most_percent.true) c.most_percent.ensures)

pub returns-clause-margin : goal.returns-clause-margin
returns-clause-margin g c =
    let model = c.args.standing.now.model.now in
    let best = best_where model c.args.whose c.args.self.percent c.args.self refl c.requires.search c.requires.kept in
    let trial = c.at-trial.ensures.is in
    margin_broken model c.args.whose c.args.self.percent best c.if-percent-eq-MOST_PERCENT.false c.in_ok-breaks.breaks
    (subst (λ (m : SystemModel). IfSome c.in_ok-breaks.breaks (BreaksFirst model m)) trial c.in_ok-breaks.ensures.some)
    (subst (λ (m : SystemModel). IfNone c.in_ok-breaks.breaks (KeepsMet model m)) trial c.in_ok-breaks.ensures.none)
