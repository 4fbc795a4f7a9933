use Rattle.std.proofs.Common.{◌≡◌, take, map}
use Rattle.cl_scale.specs.Scaled.{scaled_runnable}
use Rattle.cl_scale.proofs.scaling.scaled_runnables.Given as goal

-- the copies of the runnables so far
abbrev pub invariant-loop-runnable : goal.invariant-loop-runnable
invariant-loop-runnable l = l.copies ≡ map (scaled_runnable l.percent) (take l.runnable-index l.runnables)
