use Rattle.std.proofs.Common.{◌≡◌, ◌-◌, length, ap, subst, arith}
use Rattle.std.specs.Prelude.{IfOk}
use Rattle.cl_model.specs.declared.task.TaskDef.{TaskDef}
use Rattle.cl_model.proofs.ValidTasks.{has_runnable}
use Rattle.cl_runs.specs.{TaskTiming.timing_at, SystemOf.system_of}
use Rattle.cl_runs.proofs.ModelSystem.{count_is, range_count_is}
use Rattle.cl_check.specs.{declared.job_ends.End.TheVariants.Finish, JobMoments.AreEndsOfJobs}
use Rattle.cl_observe.proofs.task_shown.finishes.Goals as goal

pub overflow_sub-last : goal.overflow_sub-last
overflow_sub-last c = omega (
  arith,
  has_runnable c.args.model.now c.task.ensures.valid c.args.task c.requires.task,
  c.len-runnables.ensures,
  ap (λ (task : TaskDef). length task.runnables) c.task.ensures.task,
)

pub ends_apart-requires-clause-is_runnable : goal.ends_apart-requires-clause-is_runnable
ends_apart-requires-clause-is_runnable c = omega (
  arith,
  has_runnable c.args.model.now c.task.ensures.valid c.args.task c.requires.task,
  c.len-runnables.ensures,
  ap (λ (task : TaskDef). length task.runnables) c.task.ensures.task,
)

pub returns : goal.returns
returns c =
    let system = system_of c.args.model.now in
    let last : c.len-runnables.result - 1 ≡ length (timing_at system c.args.task).ranges - 1
    = omega (
      arith,
      range_count_is c.args.model.now c.args.task c.requires.task,
      c.len-runnables.ensures,
      ap (λ (task : TaskDef). length task.runnables) c.task.ensures.task,
    ) in
    subst (λ place. IfOk c.ends_apart.result (AreEndsOfJobs Finish system c.args.run.now c.args.task place)) last c.ends_apart.ensures

pub ends_apart-requires-clause-times : goal.ends_apart-requires-clause-times
ends_apart-requires-clause-times c = (c.requires.in_order c.args.task (omega (arith, c.requires.task, count_is c.args.model.now))).times
