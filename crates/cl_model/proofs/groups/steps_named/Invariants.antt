use Rattle.std.proofs.Common.{◌≡◌, map, take}
use Rattle.cl_model.specs.Inner.StepTable.{step_in}
use Rattle.cl_model.proofs.groups.steps_named.Given as goal

-- the steps of the names so far
abbrev pub invariant-loop-name : goal.invariant-loop-name
invariant-loop-name l = l.steps.items ≡ map (step_in l.table) (take l.name-index l.names)
