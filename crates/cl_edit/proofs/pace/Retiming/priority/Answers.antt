use Rattle.std.proofs.Common.{subst, arith}
use Rattle.cl_edit.specs.Inner.Paces.{IsRetimingOf}
use Rattle.cl_edit.proofs.SetPriorities.{ranks_count}
use Rattle.cl_edit.proofs.pace.Retiming.priority.Goals as goal

pub bounds-after-task : goal.bounds-after-task
bounds-after-task c =
    let model = c.args.model.now in
    let known = subst (IsRetimingOf model) c.in-Priorities.is c.requires.change in
    omega (arith, c.requires.task, ranks_count model c.in-Priorities.set.now c.in-Priorities.after.now known.1)
