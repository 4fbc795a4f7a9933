use Rattle.std.proofs.Common.{ap, sym, ◌∙◌, subst}
use Rattle.cl_model.specs.declared.task.TaskDef.{TaskDef}
use Rattle.cl_sched.specs.{Progress.HasComeTo, Inner.TakingTime.TakeTime}
use Rattle.cl_sched.proofs.{ModelJobs.{in_table, jobs_take_time}, Standing.none_before}
use Rattle.cl_sched.proofs.core_progress.unbegun.Goals as goal

pub jobs_of-requires : goal.jobs_of-requires
jobs_of-requires c = in_table c.args.model.now c.args.table.now c.args.task c.requires.lawful c.requires.task

pub before-requires-clause-take_time : goal.before-requires-clause-take_time
before-requires-clause-take_time c =
    subst TakeTime (sym c.jobs_of.ensures)
    (jobs_take_time c.args.model.now c.args.table.now c.args.task c.requires.lawful c.requires.task c.task.ensures.valid)

pub returns : goal.returns
returns c = record {
  task_is = c.before-2.ensures.task;
  priority = c.before-2.ensures.priority ∙ ap (λ (t : TaskDef). t.priority) c.task.ensures.task;
  has_come = subst (λ jobs. HasComeTo jobs 0 c.before-2.result) c.jobs_of.ensures
      (subst (λ n. HasComeTo c.jobs_of.result.now n c.before-2.result) (none_before c.jobs_of.result.now) c.before-2.ensures.begins);
}
