use Rattle.std.proofs.lemmas.Result.{IfOk-weaker}
use Rattle.cl_margin.proofs.StaysMet.{kept_below}
use Rattle.cl_margin.proofs.searching.margin_of.Goals as goal

pub returns-clause-smaller : goal.returns-clause-smaller
returns-clause-smaller g c = IfOk-weaker c.end.result _ _
    (λ found is. kept_below c.args.standing.now.model.now c.requires.standing.valid c.args.whose found.margin.percent is.best.kept) c.end.ensures.margin
