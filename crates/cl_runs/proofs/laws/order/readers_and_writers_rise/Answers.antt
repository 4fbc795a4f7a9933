use Rattle.cl_runs.proofs.ChainsOfRuns.{run_reader_rises, run_writer_rises}
use Rattle.cl_runs.proofs.laws.order.readers_and_writers_rise.Goals as goal

pub returns-clause-reader : goal.returns-clause-reader
returns-clause-reader c = run_reader_rises

pub returns-clause-writer : goal.returns-clause-writer
returns-clause-writer c = run_writer_rises
