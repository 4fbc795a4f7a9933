use Rattle.std.proofs.Common.{◌≡◌, drop}
use Rattle.cl_model.specs.Refusals.{each_from}
use Rattle.cl_edit.specs.Inner.Paces.{limits_on, all_limits_on}
use Rattle.cl_edit.proofs.pace.Retiming.check_all_limits_on.Given as goal

-- what is refused in all is what is refused in the rest
abbrev pub invariant-loop-task : goal.invariant-loop-task
invariant-loop-task l =
    all_limits_on l.model l.self l.stimulus ≡ each_from l.task (λ k task. limits_on l.model l.self l.stimulus k) (drop l.task l.model.tasks)
