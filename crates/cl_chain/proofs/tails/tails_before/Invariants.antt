use Rattle.std.proofs.Common.{◌≡◌, ℕ, ◌<◌, length}
use Rattle.cl_check.specs.JobMoments.{IsMomentOf}
use Rattle.cl_chain.specs.Inner.{GroupTables.moment_at, Hops.{GoesOnTo, AreBeforeWrites}}
use Rattle.cl_chain.proofs.tails.tails_before.Given as goal

abbrev pub invariant-loop-job : goal.invariant-loop-job
invariant-loop-job l = record {
  before : AreBeforeWrites l.reads l.writes l.next l.job;
  one_a_job : length l.found ≡ l.job;
  each : (job : ℕ) → job < length l.found → IsMomentOf (GoesOnTo l.writes l.reads l.tails job) (moment_at l.found job);
}
