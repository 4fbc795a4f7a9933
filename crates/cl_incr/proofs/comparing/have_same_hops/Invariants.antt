use Rattle.std.proofs.Common.{◌≡◌, ℕ, ◌+◌, ◌<◌}
use Rattle.cl_model.specs.Groups.{group_at, groups_at}
use Rattle.cl_runs.specs.SystemOf.{system_of}
use Rattle.cl_incr.specs.Questions.{hop_bounded_by}
use Rattle.cl_incr.proofs.comparing.have_same_hops.Given as goal

abbrev pub invariant-loop-place : goal.invariant-loop-place
invariant-loop-place l = (k : ℕ) → k + 1 < l.place
    → hop_bounded_by (system_of l.old) (group_at (groups_at l.old l.before) k) (group_at (groups_at l.old l.before) (k + 1))
    ≡ hop_bounded_by (system_of l.new) (group_at (groups_at l.new l.chain) k) (group_at (groups_at l.new l.chain) (k + 1))
