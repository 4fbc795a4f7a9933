use Rattle.std.proofs.Common.{◌≡◌, ℕ, ◌<◌}
use Rattle.cl_model.specs.Groups.{group_at, groups_at}
use Rattle.cl_runs.specs.SystemOf.{system_of}
use Rattle.cl_incr.specs.Questions.{group_question}
use Rattle.cl_incr.proofs.comparing.have_same_groups.Given as goal

abbrev pub invariant-loop-place : goal.invariant-loop-place
invariant-loop-place l = (k : ℕ) → k < l.place
    → group_question (system_of l.old) l.old_answers (group_at (groups_at l.old l.before) k)
    ≡ group_question (system_of l.new) l.new_answers (group_at (groups_at l.new l.chain) k)
