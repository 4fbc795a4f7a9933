use Rattle.std.proofs.Common.{sym}
use Rattle.cl_chain.proofs.HopFacts.{hop_found}
use Rattle.cl_chain.proofs.backward_jobs.writer_of.Goals as goal

pub returns : goal.returns
returns c = hop_found c.args.writes.now c.args.reads.now c.args.job c.in_ok-read.read (sym c.in_ok-read.ensures) c.latest_writer.result c.latest_writer.ensures.writer
