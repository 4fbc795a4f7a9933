use Rattle.std.proofs.Common.{sym, ◌∙◌, arith}
use Rattle.cl_edit.proofs.CursorFacts.{behind_title}
use Rattle.cl_edit.proofs.cursor.Cursor.of.Goals as goal

pub returns-in-Some-clause-title : goal.returns-in-Some-clause-title
returns-in-Some-clause-title c =
    behind_title c.args.text.now c.first_line.result.0.now c.first_line.result.1 c.is_none.result c.in-Some.version
    c.first_line.ensures c.is_none.ensures (sym c.in-Some.is ∙ c.in_ok-version.ensures) (omega arith)
