use Rattle.std.proofs.Common.{◌≡◌, ◌++◌}
use Rattle.cl_model.specs.Inner.StepTable.{steps_in}
use Rattle.cl_model.proofs.groups.push_steps.Given as goal

-- the steps so far stand behind the others
abbrev pub invariant-loop-place : goal.invariant-loop-place
invariant-loop-place l = l.steps.items ≡ l.fn.steps.items ++ steps_in l.task l.place
