use Rattle.std.proofs.Common.{◌≡◌, ◌++◌, take, drop, map}
use Rattle.cl_model.specs.TaskNumbers.{step_without}
use Rattle.cl_model.proofs.task_numbers.renumber_steps.Given as goal

-- those so far have their new numbers
abbrev pub invariant-loop-step : goal.invariant-loop-step
invariant-loop-step l = l.step-items ≡ map (step_without l.gone) (take l.step-index l.fn.steps.items) ++ drop l.step-index l.fn.steps.items
