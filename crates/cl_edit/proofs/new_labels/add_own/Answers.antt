use Rattle.std.proofs.Common.{sym, ◌∙◌}
use Rattle.cl_edit.proofs.AgreeFacts.{with_agrees, foreign_agrees}
use Rattle.cl_edit.proofs.new_labels.add_own.Goals as goal

pub returns-in_ok-add : goal.returns-in_ok-add
returns-in_ok-add c = with_agrees c.args.own.now c.args.among.now c.add.new.self c.args.name.now c.in_ok-add.ensures.ok

pub returns-else-contains : goal.returns-else-contains
returns-else-contains c = foreign_agrees c.args.own.now c.args.among.now c.args.name.now (sym c.contains.ensures ∙ c.if-contains.false)
