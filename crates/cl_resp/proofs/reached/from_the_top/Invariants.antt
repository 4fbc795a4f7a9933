use Rattle.std.proofs.Common.{◌≡◌, map}
use Rattle.std.specs.List.{range_with_len}
use Rattle.cl_resp.proofs.reached.from_the_top.Given as goal

-- the tasks so far, in file order
abbrev pub invariant-loop-task : goal.invariant-loop-task
invariant-loop-task l = map (λ keyed. keyed.2) l.keyed.items ≡ range_with_len 0 l.task
