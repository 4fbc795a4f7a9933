use Rattle.std.proofs.Common.{◌≡◌, ◌++◌}
use Rattle.std.specs.List.{flat_map, range_with_len}
use Rattle.cl_explain.specs.Explanation.{core_line}
use Rattle.cl_explain.proofs.explaining.put_cores.Given as goal

abbrev pub invariant-loop-core : goal.invariant-loop-core
invariant-loop-core l = l.text ≡ l.initial.text ++ flat_map (core_line l.model) (range_with_len 0 l.core)
