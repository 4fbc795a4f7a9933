use Rattle.std.proofs.Common.{◌≡◌, ◌++◌}
use Rattle.std.specs.List.{flat_map, range_with_len}
use Rattle.cl_designs.specs.Margins.{unmet_line}
use Rattle.cl_designs.proofs.margins.put_unmet.Given as goal

abbrev pub invariant-loop-requirement : goal.invariant-loop-requirement
invariant-loop-requirement l = l.text ≡ l.initial.text ++ flat_map (unmet_line l.model l.found) (range_with_len 0 l.requirement)
