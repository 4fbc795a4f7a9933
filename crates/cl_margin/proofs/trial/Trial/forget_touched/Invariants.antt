use Rattle.std.proofs.Common.{take}
use Rattle.cl_margin.specs.Inner.Trials.{Forgets}
use Rattle.cl_margin.proofs.TouchedTasks.{is_forgotten}
use Rattle.cl_margin.proofs.trial.Trial.forget_touched.Given as goal

-- those that are touched of the tasks so far are forgotten
abbrev pub invariant-loop-task : goal.invariant-loop-task
invariant-loop-task l = Forgets (is_forgotten l.standing.model.now l.grown (take l.task-index l.task-items)) l.fn.self l.self
