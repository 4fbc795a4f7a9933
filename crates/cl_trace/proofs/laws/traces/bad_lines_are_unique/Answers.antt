use Rattle.cl_trace.proofs.OneReading.{bad_once}
use Rattle.cl_trace.proofs.laws.traces.bad_lines_are_unique.Goals as goal

pub returns : goal.returns
returns c = bad_once
