use Rattle.cl_trace.proofs.RunTurns.{run_lines}
use Rattle.cl_trace.proofs.laws.lengths.run_lines_are_few.Goals as goal

pub returns : goal.returns
returns c = run_lines
