use Rattle.cl_exact.proofs.HopsBothWays.{ideal_hops, ideal_no_writer}
use Rattle.cl_exact.proofs.laws.hops.readers_follow_writers.Goals as goal

pub returns-clause-within : goal.returns-clause-within
returns-clause-within c = ideal_hops

pub returns-clause-none : goal.returns-clause-none
returns-clause-none c = ideal_no_writer
