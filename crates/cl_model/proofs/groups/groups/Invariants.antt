use Rattle.std.proofs.Common.{◌≡◌, ◌++◌, drop}
use Rattle.cl_model.specs.Groups.{groups, groups_from}
use Rattle.cl_model.proofs.groups.groups.Given as goal

-- the groups so far, and those from the last one on over what is left
abbrev pub invariant-loop-step : goal.invariant-loop-step
invariant-loop-step l = l.groups ++ groups_from l.group (drop l.step-index l.others) ≡ groups l.fn.steps
