use Rattle.std.proofs.Common.{◌≡◌, Some, sym, ◌∙◌, ap}
use Rattle.cl_edit.specs.Inner.Parts.{parts_left}
use Rattle.cl_edit.proofs.PartFacts.{part_found, part_alone}
use Rattle.cl_edit.proofs.words.Parts.next.Goals as goal

pub returns-in-Some-clause-some : goal.returns-in-Some-clause-some
returns-in-Some-clause-some c =
    let left : c.self.inside.left ≡ Some c.in_ok-left.left = cc in
    sym c.self.view_is ∙ ap (parts_left c.self.inside.separator) left
    ∙ part_found c.self.inside.separator c.in_ok-left.left.now c.in-Some.end c.in-Some.ensures

pub returns-in-None-clause-some : goal.returns-in-None-clause-some
returns-in-None-clause-some c =
    let left : c.self.inside.left ≡ Some c.in_ok-left.left = cc in
    sym c.self.view_is ∙ ap (parts_left c.self.inside.separator) left
    ∙ part_alone c.self.inside.separator c.in_ok-left.left.now c.in-None.ensures
