use Rattle.cl_runs.proofs.ChainsOfRuns.{ideal_reader_rises, ideal_writer_rises}
use Rattle.cl_runs.proofs.laws.order.ideal_readers_and_writers_rise.Goals as goal

pub returns-clause-reader : goal.returns-clause-reader
returns-clause-reader c = ideal_reader_rises

pub returns-clause-writer : goal.returns-clause-writer
returns-clause-writer c = ideal_writer_rises
