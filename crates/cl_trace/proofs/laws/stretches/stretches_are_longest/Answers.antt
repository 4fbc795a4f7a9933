use Rattle.cl_trace.proofs.LongestStretches.{own_stretches, only_stretches}
use Rattle.cl_trace.proofs.laws.stretches.stretches_are_longest.Goals as goal

pub returns-clause-own : goal.returns-clause-own
returns-clause-own c = own_stretches

pub returns-clause-only : goal.returns-clause-only
returns-clause-only c = only_stretches
