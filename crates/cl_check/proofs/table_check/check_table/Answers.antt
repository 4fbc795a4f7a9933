use Rattle.std.proofs.Common.{◌≡◌, ◌-◌, length, ap, ◌∙◌, arith}
use Rattle.std.specs.List.{range_with_len, flat_map}
use Rattle.cl_runs.specs.SystemOf.{system_of}
use Rattle.cl_runs.proofs.ModelSystem.{count_is}
use Rattle.cl_check.specs.Legality.{faults_of_task}
use Rattle.cl_check.proofs.TableFaults.{fine_task}
use Rattle.cl_check.proofs.table_check.check_table.Goals as goal

pub loop-task-init : goal.loop-task-init
loop-task-init c =
    let tasks : length (system_of c.args.model.now).tasks ≡ length c.args.model.now.tasks - 0 = omega (arith, count_is c.args.model.now) in
    ap (λ n. flat_map (faults_of_task (system_of c.args.model.now) c.args.table.now) (range_with_len 0 n)) tasks

pub loop-task-preserved : goal.loop-task-preserved
loop-task-preserved c = c.loop-task.invariant
    ∙ fine_task (faults_of_task (system_of c.args.model.now) c.args.table.now) c.loop-task.task (length c.args.model.now.tasks)
    (omega (arith, c.loop-task-test.true, c.tasks-task-end.ensures.count)) c.in_ok-check_task.ensures
