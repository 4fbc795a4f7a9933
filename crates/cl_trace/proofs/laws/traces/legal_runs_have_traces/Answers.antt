use Rattle.cl_trace.proofs.LegalTraces.{legal_trace}
use Rattle.cl_trace.proofs.laws.traces.legal_runs_have_traces.Goals as goal

pub returns : goal.returns
returns c = legal_trace
