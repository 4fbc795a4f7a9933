use Rattle.std.proofs.Common.{◌≡◌, ◌++◌, take}
use Rattle.std.specs.List.{flat_map}
use Rattle.cl_explain.specs.Accepted.{apart_lines}
use Rattle.cl_explain.proofs.accepting.put_apart.Given as goal

abbrev pub invariant-loop-stimulus : goal.invariant-loop-stimulus
invariant-loop-stimulus l = l.text ≡ l.initial.text ++ flat_map (apart_lines l.model) (take l.stimulus-index l.stimulus-items)
