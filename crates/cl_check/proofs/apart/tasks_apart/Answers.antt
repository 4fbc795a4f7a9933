use Rattle.std.proofs.Common.{[], replicate, sym, ap, ◌∙◌, arith}
use Rattle.cl_runs.specs.{declared.job.JobTable.JobTable, Run.Run, SystemOf.system_of}
use Rattle.cl_runs.proofs.ModelSystem.{count_is, cores_are, system_sound}
use Rattle.cl_check.proofs.ApartTasks.{none_apart, all_apart}
use Rattle.cl_check.proofs.apart.tasks_apart.Goals as goal

pub loop-core-init : goal.loop-core-init
loop-core-init c = none_apart (system_of c.args.model.now) c.args.run.now c.in_ok-apart.apart
    (ap (λ (run : Run). run.table.ticks) c.in_ok-apart.ensures ∙ ap (λ (t : JobTable). t.ticks) c.table.ensures)
    (ap (λ (run : Run). run.entries) c.in_ok-apart.ensures ∙ ap (λ n. replicate n []) (c.tasks.ensures.count ∙ sym (count_is c.args.model.now)))

pub returns : goal.returns
returns c = all_apart (system_of c.args.model.now) (system_sound c.args.model.now c.tasks.ensures.valid) c.args.run.now c.loop-core.apart c.loop-core.core
    (omega (arith, c.loop-core-test.false, c.cores-core-end.ensures.count, cores_are c.args.model.now)) c.loop-core.invariant
