use Rattle.cl_runs.specs.SystemOf.{system_of}
use Rattle.cl_check.specs.Inner.Following.{IsFollowed}
use Rattle.cl_check.proofs.FollowedRuns.{BeginsAt}
use Rattle.cl_check.proofs.schedule_check.follow_all.Given as goal

-- the core is followed to where the next stretch begins
abbrev pub invariant-loop-stretch : goal.invariant-loop-stretch
invariant-loop-stretch l = record {
  followed : IsFollowed (system_of l.model) l.run l.core l.reached;
  begins : BeginsAt l.stretch-items l.stretch-index l.reached.tick;
}
