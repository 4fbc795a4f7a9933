use Rattle.std.proofs.Common.{sym, ap, subst, ◌∙◌, arith}
use Rattle.std.proofs.lemmas.Result.{IfOk-weaker}
use Rattle.cl_model.specs.declared.task.AccessKind.TheVariants.{Explicit, Implicit, Timed}
use Rattle.cl_runs.specs.{declared.job.{Job.Job, JobTable.JobTable}, Table.table_jobs, SystemOf.system_of, Moments.{Finishes, WritesAtDeadline, Writes}}
use Rattle.cl_draw.proofs.StopFacts.{job_found, write_by, writes_by, last_place, write_at_deadline}
use Rattle.cl_draw.proofs.stops.write_of.Goals as goal

pub finish_of-requires-clause-finishes : goal.finish_of-requires-clause-finishes
finish_of-requires-clause-finishes c = (
  c.requires.writes.0,
  write_by c.args.model.now c.args.run.now c.args.group.task c.requires.group.known _ c.task-task.ensures.task Explicit c.in-Explicit.is c.args.job
      c.args.group.last c.requires.writes.0 c.requires.writes.1,
)

pub finish_of-requires-in-Implicit-clause-finishes : goal.finish_of-requires-in-Implicit-clause-finishes
finish_of-requires-in-Implicit-clause-finishes c = (
  c.requires.writes.0,
  subst (λ p. Finishes (system_of c.args.model.now) c.args.run.now c.args.group.task c.args.job p c.requires.writes.0)
      (sym (last_place c.args.model.now c.args.run.now c.args.group.task c.requires.group.known _ c.task-task.ensures.task Implicit c.in-Implicit.is c.args.job
      c.args.group.last c.len.result c.len.ensures))
      (write_by c.args.model.now c.args.run.now c.args.group.task c.requires.group.known _ c.task-task.ensures.task Implicit c.in-Implicit.is c.args.job
      c.args.group.last c.requires.writes.0 c.requires.writes.1),
)

pub overflow_add-result : goal.overflow_add-result
overflow_add-result c =
    let writes : WritesAtDeadline (system_of c.args.model.now) c.args.run.now c.args.group.task c.args.job c.requires.writes.0
    = write_by c.args.model.now c.args.run.now c.args.group.task c.requires.group.known _ c.task-task.ensures.task Timed c.in-Timed.is c.args.job
    c.args.group.last c.requires.writes.0 c.requires.writes.1 in
    omega (
      arith,
      writes.by_end,
      write_at_deadline c.args.model.now c.args.run.now c.args.group.task c.requires.group.known c.args.job c.requires.writes.0 writes,
      c.deadline_of.ensures,
      ap (λ (job : Job). job.arrival) (job_found _ _ (c.jobs_of.ensures ∙ ap (λ (t : JobTable). table_jobs t c.args.group.task) c.table-table.ensures) c.args.job
          c.requires.writes.1.in_table c.index-jobs_of-job.result),
      ap (λ (t : JobTable). t.ticks) c.table-table.ensures,
    )

pub returns-in-Explicit : goal.returns-in-Explicit
returns-in-Explicit c = IfOk-weaker c.finish_of.result _ _
    (λ s by. writes_by c.args.model.now c.args.run.now c.args.group.task c.requires.group.known _ c.task-task.ensures.task Explicit c.in-Explicit.is c.args.job
    c.args.group.last c.requires.writes.0 s c.requires.writes.1 by)
    c.finish_of.ensures

pub returns-in-Implicit : goal.returns-in-Implicit
returns-in-Implicit c = IfOk-weaker c.finish_of-in-Implicit.result _ _
    (λ s by. writes_by c.args.model.now c.args.run.now c.args.group.task c.requires.group.known _ c.task-task.ensures.task Implicit c.in-Implicit.is c.args.job
    c.args.group.last c.requires.writes.0 s c.requires.writes.1
    (subst (λ p. Finishes (system_of c.args.model.now) c.args.run.now c.args.group.task c.args.job p s)
    (last_place c.args.model.now c.args.run.now c.args.group.task c.requires.group.known _ c.task-task.ensures.task Implicit c.in-Implicit.is c.args.job
    c.args.group.last c.len.result c.len.ensures) by))
    c.finish_of-in-Implicit.ensures

pub returns-in-Timed : goal.returns-in-Timed
returns-in-Timed c =
    let writes : WritesAtDeadline (system_of c.args.model.now) c.args.run.now c.args.group.task c.args.job c.requires.writes.0
    = write_by c.args.model.now c.args.run.now c.args.group.task c.requires.group.known _ c.task-task.ensures.task Timed c.in-Timed.is c.args.job
    c.args.group.last c.requires.writes.0 c.requires.writes.1 in
    subst (Writes (system_of c.args.model.now) c.args.run.now c.args.group.task c.args.job c.args.group.last)
    (omega (
      arith,
      write_at_deadline c.args.model.now c.args.run.now c.args.group.task c.requires.group.known c.args.job c.requires.writes.0 writes,
      c.deadline_of.ensures,
      ap (λ (job : Job). job.arrival) (job_found _ _ (c.jobs_of.ensures ∙ ap (λ (t : JobTable). table_jobs t c.args.group.task) c.table-table.ensures) c.args.job
          c.requires.writes.1.in_table c.index-jobs_of-job.result),
    ))
    c.requires.writes.1
