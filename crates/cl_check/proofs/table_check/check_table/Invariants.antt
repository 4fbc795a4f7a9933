use Rattle.std.proofs.Common.{◌≡◌, ◌-◌, length}
use Rattle.std.specs.List.{range_with_len, flat_map}
use Rattle.cl_runs.specs.SystemOf.{system_of}
use Rattle.cl_check.specs.Legality.{faults_of_task, table_faults}
use Rattle.cl_check.proofs.table_check.check_table.Given as goal

-- the faults of the tasks that are left are those of all
abbrev pub invariant-loop-task : goal.invariant-loop-task
invariant-loop-task l = table_faults (system_of l.model) l.table
    ≡ flat_map (faults_of_task (system_of l.model) l.table) (range_with_len l.task (length l.model.tasks - l.task))
