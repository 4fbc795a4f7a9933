use Rattle.std.proofs.Common.{◌≡◌, take}
use Rattle.cl_model.specs.Holds.{greatest_by, runnable_hold}
use Rattle.cl_model.proofs.task.TaskDef.longest_hold.Given as goal

-- the greatest hold of the runnables so far
abbrev pub invariant-loop-runnable : goal.invariant-loop-runnable
invariant-loop-runnable l = l.longest ≡ greatest_by runnable_hold (take l.runnable-index l.self.runnables)
