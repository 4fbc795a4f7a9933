use Rattle.std.proofs.Common.{◌≡◌, ℕ, ◌<◌, length}
use Rattle.cl_check.specs.JobMoments.{IsMomentOf}
use Rattle.cl_chain.specs.Inner.{GroupTables.moment_at, Hops.{GoesOnFrom, ArePassedFrom}}
use Rattle.cl_chain.proofs.heads.heads_after.Given as goal

abbrev pub invariant-loop-job : goal.invariant-loop-job
invariant-loop-job l = record {
  passed : ArePassedFrom l.writes l.reads l.writers l.job;
  one_a_job : length l.found ≡ l.job;
  each : (job : ℕ) → job < length l.found → IsMomentOf (GoesOnFrom l.writes l.reads l.heads job) (moment_at l.found job);
}
