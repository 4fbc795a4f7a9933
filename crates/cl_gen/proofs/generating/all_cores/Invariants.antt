use Rattle.std.proofs.Common.{◌≡◌, map}
use Rattle.std.specs.List.{range_with_len}
use Rattle.cl_gen.specs.Generated.{generated_core}
use Rattle.cl_gen.proofs.generating.all_cores.Given as goal

abbrev pub invariant-loop-number : goal.invariant-loop-number
invariant-loop-number l = l.cores ≡ map generated_core (range_with_len 0 l.number)
