use Rattle.std.proofs.Common.{◌≡◌, take}
use Rattle.cl_model.specs.Holds.{greatest_by}
use Rattle.cl_tune.specs.Inner.Times.{scaled_hold}
use Rattle.cl_tune.proofs.times.longest_scaled_hold.Given as goal

-- the longest of the runnables so far
abbrev pub invariant-loop-runnable : goal.invariant-loop-runnable
invariant-loop-runnable l = l.longest ≡ greatest_by (scaled_hold l.percent) (take l.runnable-index l.runnables)
