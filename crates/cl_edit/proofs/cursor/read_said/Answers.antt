use Rattle.cl_edit.proofs.CursorFacts.{says_this}
use Rattle.cl_edit.proofs.cursor.read_said.Goals as goal

pub returns-in-Ok-clause-says : goal.returns-in-Ok-clause-says
returns-in-Ok-clause-says c = says_this c.args.version c.args.line c.args.said.now c.in-Ok.edit c.in-Ok.ensures
