use Rattle.std.proofs.Common.{◌≡◌, ℕ, ◌<◌, length}
use Rattle.cl_check.specs.JobMoments.{IsMomentOf}
use Rattle.cl_chain.specs.Inner.{GroupTables.moment_at, Hops.IsWrite}
use Rattle.cl_chain.proofs.tails.last_tails.Given as goal

abbrev pub invariant-loop-job : goal.invariant-loop-job
invariant-loop-job l = record {
  one_a_job : length l.tails ≡ l.job;
  each : (job : ℕ) → job < length l.tails → IsMomentOf (IsWrite l.writes job) (moment_at l.tails job);
}
