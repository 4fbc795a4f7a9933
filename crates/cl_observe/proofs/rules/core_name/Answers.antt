use Rattle.cl_observe.proofs.NamesPast.{no_core_name}
use Rattle.cl_observe.proofs.rules.core_name.Goals as goal

pub returns-in-None : goal.returns-in-None
returns-in-None c = no_core_name c.args.model.now c.args.core (rw c.plain.ensures.plain at c.in-None.ensures)
