use Rattle.cl_hop.proofs.KeptWindows.{timely_keeps}
use Rattle.cl_hop.proofs.laws.timings.timings_by_responses_hold.Goals as goal

pub returns : goal.returns
returns c = timely_keeps
