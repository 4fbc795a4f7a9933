use Rattle.std.proofs.Common.{◌≡◌, ℕ, ◌<◌, length}
use Rattle.cl_runs.specs.Table.{job_at}
use Rattle.cl_check.specs.JobMoments.{IsMomentOf}
use Rattle.cl_chain.specs.Inner.GroupTables.{moment_at, IsTimedWrite}
use Rattle.cl_chain.proofs.group_moments.timed_writes.Given as goal

abbrev pub invariant-loop-place : goal.invariant-loop-place
invariant-loop-place l = record {
  one_a_job : length l.writes ≡ l.place;
  each : (job : ℕ) → job < length l.writes
      → IsMomentOf (IsTimedWrite (job_at l.jobs job) l.deadline l.ticks (moment_at l.finishes job)) (moment_at l.writes job);
}
