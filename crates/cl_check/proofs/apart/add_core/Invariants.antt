use Rattle.std.proofs.Common.{◌≤◌}
use Rattle.cl_runs.specs.SystemOf.{system_of}
use Rattle.cl_check.specs.Inner.PutApart.{AreApartUpTo}
use Rattle.cl_check.proofs.FollowedRuns.{BeginsAt}
use Rattle.cl_check.proofs.apart.add_core.Given as goal

-- the tasks stand apart up to where the next stretch begins
abbrev pub invariant-loop-stretch : goal.invariant-loop-stretch
invariant-loop-stretch l = record {
  apart : AreApartUpTo (system_of l.model) l.run l.core l.from l.apart;
  begins : BeginsAt l.stretch-items l.stretch-index l.from;
  within : l.from ≤ l.run.table.ticks;
}
