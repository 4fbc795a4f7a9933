use Rattle.std.proofs.Common.{◌≡◌, take}
use Rattle.std.specs.List.{list_all}
use Rattle.cl_tune.specs.Inner.Times.{stays_within}
use Rattle.cl_tune.proofs.times.runnables_within.Given as goal

-- whether those of the runnables so far do
abbrev pub invariant-loop-runnable : goal.invariant-loop-runnable
invariant-loop-runnable l = l.within ≡ list_all (stays_within l.percent) (take l.runnable-index l.runnables)
