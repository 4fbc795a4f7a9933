use Rattle.std.proofs.Common.{◌≡◌, ℕ, ◌<◌, false}
use Rattle.cl_phase.specs.{Walks.pace_at, Inner.Keeping.arrives_seldom}
use Rattle.cl_phase.proofs.keeping.Keeping.slowest.Given as goal

abbrev pub invariant-loop-place : goal.invariant-loop-place
invariant-loop-place l = (before : ℕ) → before < l.place → arrives_seldom l.self.hyperperiod l.self.fewest (pace_at l.stops before) ≡ false
