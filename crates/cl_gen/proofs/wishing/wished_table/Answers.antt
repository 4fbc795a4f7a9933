use Rattle.std.proofs.Common.{◌≡◌, length, refl, subst, arith}
use Rattle.cl_runs.specs.SystemOf.{system_of}
use Rattle.cl_runs.proofs.ModelSystem.{count_is}
use Rattle.cl_gen.proofs.WishedTables.{AreWishedFirst, lawful_on}
use Rattle.cl_gen.proofs.wishing.wished_table.Goals as goal

pub returns-clause-lawful : goal.returns-clause-lawful
returns-clause-lawful g c =
    let system = system_of c.args.model.now in
    let all : c.loop-task.task ≡ length system.tasks
    = omega (arith, c.loop-task-test.false, c.loop-task.auto.task-end, c.tasks-task-end.ensures.count, count_is c.args.model.now) in
    lawful_on system c.args.ticks c.args.cores.now (record { ticks = c.args.ticks; jobs = c.loop-task.jobs }) refl
    (subst (λ n. AreWishedFirst system c.args.ticks c.args.cores.now n c.loop-task.jobs) all c.loop-task.invariant)
