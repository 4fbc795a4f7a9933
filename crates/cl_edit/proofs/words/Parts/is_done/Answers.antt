use Rattle.cl_edit.proofs.PartFacts.{done_where}
use Rattle.cl_edit.proofs.words.Parts.is_done.Goals as goal

pub returns : goal.returns
returns c = done_where c.self.inside.separator c.self.inside.left c.args.self.now c.is_none.result c.self.view_is c.is_none.ensures
