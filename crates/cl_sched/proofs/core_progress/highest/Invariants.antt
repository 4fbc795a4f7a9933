use Rattle.std.proofs.Common.{ℕ, ◌<◌, ◌≤◌, length}
use Rattle.cl_sched.specs.CoreProgress.{progress_at}
use Rattle.cl_sched.proofs.core_progress.highest.Given as goal

-- no task so far is released, nor is one before the first event among them
abbrev pub invariant-loop-count : goal.invariant-loop-count
invariant-loop-count l = record {
  from : l.count ≤ length l.tasks;
  waiting : (k : ℕ) → k < l.count → l.until ≤ (progress_at l.tasks k).release;
  still : l.tick < l.until;
}
