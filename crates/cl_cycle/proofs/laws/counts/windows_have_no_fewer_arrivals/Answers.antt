use Rattle.cl_cycle.proofs.CountedTicks.{wider_has, later_has}
use Rattle.cl_cycle.proofs.laws.counts.windows_have_no_fewer_arrivals.Goals as goal

pub returns-clause-wider : goal.returns-clause-wider
returns-clause-wider c = wider_has

pub returns-clause-later : goal.returns-clause-later
returns-clause-later c = later_has
