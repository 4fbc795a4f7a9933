use Rattle.std.proofs.Common.{◌≡◌, ◌++◌, take}
use Rattle.std.specs.List.{flat_map}
use Rattle.cl_explain.specs.Accepted.{label_line}
use Rattle.cl_explain.proofs.labels.put_labels.Given as goal

abbrev pub invariant-loop-label : goal.invariant-loop-label
invariant-loop-label l = l.text ≡ l.initial.text ++ flat_map (label_line l.way l.model) (take l.label-index l.label-items)
