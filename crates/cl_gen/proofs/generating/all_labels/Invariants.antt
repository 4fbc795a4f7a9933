use Rattle.std.proofs.Common.{◌≡◌, map}
use Rattle.std.specs.List.{range_with_len}
use Rattle.cl_gen.specs.Generated.{generated_label}
use Rattle.cl_gen.proofs.generating.all_labels.Given as goal

abbrev pub invariant-loop-number : goal.invariant-loop-number
invariant-loop-number l = l.labels ≡ map generated_label (range_with_len 0 l.number)
