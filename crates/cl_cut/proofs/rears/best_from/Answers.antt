use Rattle.std.proofs.Common.{ℕ, List, sym, subst}
use Rattle.cl_cut.specs.Cuts.{IsBestCutFrom}
use Rattle.cl_cut.proofs.rears.best_from.Goals as goal

pub returns-clause-best : goal.returns-clause-best
returns-clause-best c = λ system groups positive are known.
    subst (λ (list : List ℕ). IsBestCutFrom system groups c.args.first list c.best_front-front.result.cost) (sym c.in_ok-pieces_behind.ensures)
    (c.best_front-front.ensures.best system groups c.args.first positive are known)
