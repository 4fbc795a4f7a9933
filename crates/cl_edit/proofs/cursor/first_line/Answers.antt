use Rattle.cl_edit.specs.Inner.Parts.{parts}
use Rattle.cl_edit.proofs.PartFacts.{part_found, part_alone}
use Rattle.cl_edit.proofs.cursor.first_line.Goals as goal

pub returns-in-Some : goal.returns-in-Some
unfolding parts
returns-in-Some c = part_found 0x0A c.args.text.now c.in-Some.end c.in-Some.ensures

pub returns-in-None : goal.returns-in-None
unfolding parts
returns-in-None c = part_alone 0x0A c.args.text.now c.in-None.ensures
