use Rattle.cl_incr.proofs.CheckedEdits.{made_where_ok, refused_where_err}
use Rattle.cl_incr.proofs.session.check.Goals as goal

pub returns-clause-made : goal.returns-clause-made
returns-clause-made c = made_where_ok c.args.model.now c.args.edit.now c.check_edit.result c.check_edit.ensures.change

pub returns-clause-refused : goal.returns-clause-refused
returns-clause-refused c = refused_where_err c.args.model.now c.args.edit.now c.check_edit.result c.check_edit.ensures.change
