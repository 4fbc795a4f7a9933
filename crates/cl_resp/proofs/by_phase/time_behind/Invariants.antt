use Rattle.std.proofs.Common.{◌≡◌, take}
use Rattle.std.specs.Prelude.{sum_by}
use Rattle.cl_model.specs.declared.task.RunnableDef.{RunnableDef}
use Rattle.cl_resp.proofs.by_phase.time_behind.Given as goal

-- the time of the runnables so far
abbrev pub invariant-loop-runnable : goal.invariant-loop-runnable
invariant-loop-runnable l = l.time ≡ sum_by (λ (runnable : RunnableDef). runnable.greatest) (take l.runnable-index l.runnable-items)
