use Rattle.std.proofs.Common.{◌≡◌, ℕ, ◌<◌, length}
use Rattle.cl_check.specs.JobMoments.{IsMomentOf}
use Rattle.cl_chain.specs.Inner.{GroupTables.moment_at, Hops.IsOfNext}
use Rattle.cl_chain.proofs.measuring.later_writes.Given as goal

abbrev pub invariant-loop-job : goal.invariant-loop-job
invariant-loop-job l = record {
  one_a_job : length l.later ≡ l.job;
  each : (job : ℕ) → job < length l.later → IsMomentOf (IsOfNext l.writes job) (moment_at l.later job);
}
