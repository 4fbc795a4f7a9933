use Rattle.std.proofs.Common.{sym, ◌∙◌, subst, arith}
use Rattle.cl_margin.specs.{declared.searching.Item.Item, Inner.Searches.{FitsAnswer, FitsItem}}
use Rattle.cl_margin.proofs.AskedItems.{bounds_fit}
use Rattle.cl_margin.proofs.searching.holds.Goals as goal

pub returns-in-Bounds-clause-fits : goal.returns-in-Bounds-clause-fits
returns-in-Bounds-clause-fits g c =
    let fit = rw c.in-Bounds.is at (rw c.in_ok-bounds-in-Chain.was at c.bound.type_inv) in
    subst (λ (item : Item). FitsItem item c.args.trial.now.model) (sym c.in-Chain.is)
    (subst FitsAnswer (sym c.in-Bounds.is ∙ c.in_ok-bounds-in-Chain.ensures.answer)
    (bounds_fit c.in-Bounds.bounds (omega (arith, fit)) (omega (arith, fit)) (omega (arith, fit)) (omega (arith, fit))))
