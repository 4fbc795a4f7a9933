use Rattle.cl_tight.proofs.TimedTimings.{timed_by_phases}
use Rattle.cl_tight.proofs.laws.exact.timed_groups_have_timed_timings.Goals as goal

pub returns : goal.returns
returns c = timed_by_phases
