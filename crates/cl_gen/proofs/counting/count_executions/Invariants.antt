use Rattle.std.proofs.Common.{◌≡◌, ◌*◌, ◌^◌, ◌≤◌, take}
use Rattle.std.specs.Prelude.{sum_by}
use Rattle.cl_runs.specs.SystemOf.{system_of}
use Rattle.cl_gen.specs.Count.{executions_of}
use Rattle.cl_gen.proofs.counting.count_executions.Given as goal

-- the executions of the tasks so far
abbrev pub invariant-loop-task : goal.invariant-loop-task
invariant-loop-task l = record {
  sum : l.count ≡ sum_by (executions_of l.ticks l.cores) (take l.task (system_of l.model).tasks);
  few : l.count ≤ l.task * 2 ^ 40;
}
