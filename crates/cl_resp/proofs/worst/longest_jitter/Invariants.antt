use Rattle.std.proofs.Common.{ℕ, ◌<◌, ◌≤◌}
use Rattle.std.specs.Prelude.{slice_index_or}
use Rattle.cl_model.specs.declared.limits.TheConstants.{MOST_TICKS}
use Rattle.cl_resp.specs.declared.phased.InPhase.{InPhase}
use Rattle.cl_resp.proofs.worst.longest_jitter.Given as goal

-- no task so far has a longer one
abbrev pub invariant-loop-above : goal.invariant-loop-above
invariant-loop-above l = record {
  all : (k : ℕ) (d : InPhase) → k < l.above-index → (slice_index_or l.above-items k d).jitter ≤ l.longest;
  short : l.longest ≤ MOST_TICKS;
}
