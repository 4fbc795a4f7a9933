use Rattle.std.proofs.Common.{◌≡◌, ◌++◌}
use Rattle.std.specs.List.{flat_map, range_with_len}
use Rattle.cl_why.specs.Shares.{above_share}
use Rattle.cl_why.proofs.shares.put_all_above.Given as goal

abbrev pub invariant-loop-other : goal.invariant-loop-other
invariant-loop-other l = l.text ≡ l.initial.text ++ flat_map (above_share l.model l.window.task l.window.worst) (range_with_len 0 l.other)
