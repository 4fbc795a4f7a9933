use Rattle.std.proofs.Common.{◌-◌, length, ap, ◌∙◌, arith}
use Rattle.std.proofs.lemmas.Result.{IfOk-weaker}
use Rattle.cl_runs.specs.{declared.job.JobTable.JobTable, Table.table_jobs}
use Rattle.cl_runs.proofs.ModelSystem.{count_is}
use Rattle.cl_chain.proofs.GroupReads.{writes_explicitly, writes_implicitly, writes_timed}
use Rattle.cl_chain.proofs.group_moments.writes_of.Goals as goal

pub jobs_of-requires : goal.jobs_of-requires
jobs_of-requires c = omega (
  arith,
  c.requires.is_task,
  c.requires.in_form.tasks,
  count_is c.args.model.now,
  ap (λ (t : JobTable). length t.jobs) c.table-table.ensures,
)

pub returns-in-Explicit : goal.returns-in-Explicit
returns-in-Explicit c = IfOk-weaker c.ends_of.result _ _
    (writes_explicitly c.args.model.now c.args.run.now c.args.task c.args.place c.requires.is_task c.requires.is_runnable _ c.access_of-access.ensures.kind c.in-Explicit.is) c.ends_of.ensures

pub returns-in-Implicit : goal.returns-in-Implicit
returns-in-Implicit c = IfOk-weaker c.ends_of-in-Implicit.result _ _
    (writes_implicitly c.args.model.now c.args.run.now c.args.task c.args.place c.requires.is_task c.requires.is_runnable _ c.access_of-access.ensures.kind _ (omega (arith, c.access_of-access.ensures.runnables)) c.in-Implicit.is) c.ends_of-in-Implicit.ensures

pub returns-in_ok-finishes-in-Timed : goal.returns-in_ok-finishes-in-Timed
returns-in_ok-finishes-in-Timed c = IfOk-weaker c.timed_writes.result _ _
    (writes_timed c.args.model.now c.args.run.now c.args.task c.args.place c.requires.is_task c.requires.is_runnable _ c.access_of-access.ensures.kind
    (c.access_of-access.result.1 - 1) (omega (arith, c.access_of-access.ensures.runnables)) c.in-Timed.is c.as_slice.result.now (rw c.as_slice.ensures c.in_ok-finishes-in-Timed.ensures)
    c.jobs_of.result.now (c.jobs_of.ensures ∙ ap (λ (t : JobTable). table_jobs t c.args.task) c.table-table.ensures) _ _
    c.deadline_of-deadline.ensures (ap (λ (t : JobTable). t.ticks) c.table-table.ensures)) c.timed_writes.ensures
