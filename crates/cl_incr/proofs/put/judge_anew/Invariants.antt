use Rattle.std.proofs.Common.{◌≡◌, ℕ, ◌<◌, length}
use Rattle.cl_analyse.specs.Verdicts.{verdict_at, verdicts_of}
use Rattle.cl_incr.proofs.put.judge_anew.Given as goal

-- the verdicts so far are right
abbrev pub invariant-loop-place : goal.invariant-loop-place
invariant-loop-place l = record {
  count : length l.verdicts ≡ length l.model.requirements;
  each : (k : ℕ) → k < l.place → verdict_at l.verdicts k ≡ verdict_at (verdicts_of l.model l.chains l.exacts) k;
}
