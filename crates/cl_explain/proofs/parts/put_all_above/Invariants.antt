use Rattle.std.proofs.Common.{◌≡◌, ◌++◌}
use Rattle.std.specs.List.{flat_map, range_with_len}
use Rattle.cl_explain.specs.Parts.{above_part}
use Rattle.cl_explain.proofs.parts.put_all_above.Given as goal

abbrev pub invariant-loop-other : goal.invariant-loop-other
invariant-loop-other l = l.text ≡ l.initial.text ++ flat_map (above_part l.model l.task l.width) (range_with_len 0 l.other)
