use Rattle.std.proofs.Common.{◌≡◌, ◌++◌}
use Rattle.std.specs.List.{flat_map, range_with_len}
use Rattle.cl_explain.specs.Accepted.{overloaded_line}
use Rattle.cl_explain.proofs.accepting.put_overloaded.Given as goal

abbrev pub invariant-loop-core : goal.invariant-loop-core
invariant-loop-core l = l.text ≡ l.initial.text ++ flat_map (overloaded_line l.model) (range_with_len 0 l.core)
