use Rattle.std.proofs.Common.{◌≡◌, [], replicate}
use Rattle.cl_model.proofs.look_ups.no_tasks.Given as goal

-- the cores so far have no tasks
abbrev pub invariant-loop : goal.invariant-loop
invariant-loop l = l.lists.items ≡ replicate l.counter []
