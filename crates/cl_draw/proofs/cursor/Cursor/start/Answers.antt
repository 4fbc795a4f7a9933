use Rattle.cl_draw.proofs.CursorFacts.{stands_first}
use Rattle.cl_draw.proofs.cursor.Cursor.start.Goals as goal

pub returns-clause-stands : goal.returns-clause-stands
returns-clause-stands c = stands_first c.args.of.model.now c.args.of.run.now c.args.of.task c.requires c.at.result c.at.ensures.job c.at.ensures.place c.at.ensures.left
