use Rattle.std.proofs.Common.{ℕ, ◌<◌}
use Rattle.cl_model.specs.Groups.{group_at, groups_at}
use Rattle.cl_incr.specs.Inner.Standing.{StaysGroup}
use Rattle.cl_incr.proofs.chains.groups_stay.Given as goal

abbrev pub invariant-loop-place : goal.invariant-loop-place
invariant-loop-place l = (k : ℕ) → k < l.place → StaysGroup l.old l.new (group_at (groups_at l.old l.was) k) (group_at (groups_at l.new l.chain) k)
