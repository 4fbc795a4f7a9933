use Rattle.std.proofs.Common.{◌≡◌, map}
use Rattle.std.specs.List.{range_with_len}
use Rattle.cl_gen.specs.Generated.{runnable_name}
use Rattle.cl_gen.proofs.generating.steps.Given as goal

abbrev pub invariant-loop-step : goal.invariant-loop-step
invariant-loop-step l = l.names ≡ map runnable_name (range_with_len l.first l.step)
