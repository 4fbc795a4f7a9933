use Rattle.cl_tight.proofs.LongerTimes.{timely_too, stays_within_longer, longer_no_less}
use Rattle.cl_tight.proofs.laws.timings.longer_times_bound_no_less.Goals as goal

pub returns-clause-timely : goal.returns-clause-timely
returns-clause-timely c = timely_too

pub returns-clause-windows : goal.returns-clause-windows
returns-clause-windows c = stays_within_longer

pub returns-clause-bounds : goal.returns-clause-bounds
returns-clause-bounds c = longer_no_less
