use Rattle.std.proofs.Common.{◌≡◌, [], ◌++◌, ap, subst, ◌∙◌}
use Rattle.std.specs.Prelude.{Err}
use Rattle.std.proofs.lemmas.List.{append-nil}
use Rattle.cl_edit.specs.{Listed.GivesNext, Reading.AreEditsOf}
use Rattle.cl_edit.proofs.OneAnswer.{edits_unique, only_fault}
use Rattle.cl_edit.proofs.reading.read_edits.Goals as goal

pub returns-in_err-lines-clause-only : goal.returns-in_err-lines-clause-only
returns-in_err-lines-clause-only c =
    only_fault c.args.text.now c.from_residual.result c.in_err-lines.field-0.0 c.from_residual.ensures (λ line is. c.in_err-lines.ensures.bad_line line (ap Err is))

pub returns-clause-only : goal.returns-clause-only
returns-clause-only c = λ listed are.
    let read = c.loop-listed.listed in
    let left = c.loop-listed.lines in
    let none : left ≡ [] = subst (λ next. GivesNext next left c.next.new.self) c.in_default.is c.in_ok-edit.ensures.next in
    let all : AreEditsOf c.args.text.now read = subst (AreEditsOf c.args.text.now) (ap (λ rest. read ++ rest) none ∙ append-nil read) c.loop-listed.invariant in
    edits_unique c.args.text.now read listed all are
