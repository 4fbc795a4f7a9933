use Rattle.std.proofs.Common.{◌≡◌, ap, subst}
use Rattle.std.specs.Prelude.{Err}
use Rattle.cl_edit.specs.{Listed.GivesNext, Inner.Left.edits_left}
use Rattle.cl_edit.proofs.ReadLines.{left_by, gives_next, none_stuck}
use Rattle.cl_edit.proofs.edit_lines.EditLines.next.Goals as goal

pub invariant_of-self : goal.invariant_of-self
invariant_of-self c = left_by c.self.inside.left c.next.new.self c.self.invariant c.next.ensures.numbers c.next.ensures.version c.in-Ok.next c.in-Ok.ensures.next

pub unreachable-requires : goal.unreachable-requires
unreachable-requires c =
    none_stuck c.self.inside.left c.in-Err-BadLine.field-0-0 c.self.invariant
    (c.in-Err-BadLine.ensures.bad_line c.in-Err-BadLine.field-0-0 (ap Err c.in-Err-BadLine.field-0-is))

pub returns-in-Ok-clause-next : goal.returns-in-Ok-clause-next
returns-in-Ok-clause-next c =
    let view : edits_left c.self.inside.left ≡ c.args.self.now = c.self.view_is in
    subst (λ before. GivesNext c.in-Ok.next before (edits_left c.next.new.self)) view
    (gives_next c.self.inside.left c.next.new.self c.self.invariant c.next.ensures.numbers c.next.ensures.version c.in-Ok.next c.in-Ok.ensures.next)
