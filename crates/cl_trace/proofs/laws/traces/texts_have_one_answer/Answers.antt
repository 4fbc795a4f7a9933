use Rattle.cl_trace.proofs.OneTrace.{one_run, spelled_once, no_bad_line}
use Rattle.cl_trace.proofs.laws.traces.texts_have_one_answer.Goals as goal

pub returns-clause-run : goal.returns-clause-run
returns-clause-run c = one_run

pub returns-clause-spelled : goal.returns-clause-spelled
returns-clause-spelled c = spelled_once

pub returns-clause-no_bad_line : goal.returns-clause-no_bad_line
returns-clause-no_bad_line c = λ model valid named text run line. no_bad_line model valid named text run line
