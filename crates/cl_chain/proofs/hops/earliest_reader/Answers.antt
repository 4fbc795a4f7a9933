use Rattle.cl_chain.proofs.HopFacts.{first_reader}
use Rattle.cl_chain.proofs.hops.earliest_reader.Goals as goal

pub returns-then-write-read : goal.returns-then-write-read
returns-then-write-read c = first_reader c.args.reads.now c.args.write c.loop-job.job c.in-Some.read c.in-Some.is c.if-write-read.true c.loop-job.invariant
