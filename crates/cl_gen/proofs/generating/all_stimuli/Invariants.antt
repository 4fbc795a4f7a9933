use Rattle.std.proofs.Common.{◌≡◌, map}
use Rattle.std.specs.List.{range_with_len}
use Rattle.cl_gen.specs.Generated.{generated_stimulus}
use Rattle.cl_gen.proofs.generating.all_stimuli.Given as goal

abbrev pub invariant-loop-number : goal.invariant-loop-number
invariant-loop-number l = l.stimuli ≡ map generated_stimulus (range_with_len 0 l.number)
