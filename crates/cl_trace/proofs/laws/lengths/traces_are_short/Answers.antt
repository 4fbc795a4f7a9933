use Rattle.cl_trace.proofs.ShortTraces.{short_trace}
use Rattle.cl_trace.proofs.laws.lengths.traces_are_short.Goals as goal

pub returns : goal.returns
returns c = short_trace
