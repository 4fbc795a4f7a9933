use Rattle.cl_runs.proofs.{StartsFinishes.{starts_once, finishes_once}, MomentFacts.{reads_once, writes_once}}
use Rattle.cl_runs.proofs.laws.moments.moments_are_unique.Goals as goal

pub returns-clause-starts : goal.returns-clause-starts
returns-clause-starts c = starts_once

pub returns-clause-finishes : goal.returns-clause-finishes
returns-clause-finishes c = finishes_once

pub returns-clause-reads : goal.returns-clause-reads
returns-clause-reads c = reads_once

pub returns-clause-writes : goal.returns-clause-writes
returns-clause-writes c = writes_once
