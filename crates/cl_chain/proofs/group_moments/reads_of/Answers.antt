use Rattle.std.proofs.Common.{length, ap, ◌∙◌, arith}
use Rattle.std.proofs.lemmas.Result.{IfOk-weaker}
use Rattle.cl_runs.specs.{declared.job.JobTable.JobTable, Table.table_jobs}
use Rattle.cl_runs.proofs.ModelSystem.{count_is}
use Rattle.cl_chain.proofs.GroupReads.{reads_explicitly, reads_implicitly, reads_timed}
use Rattle.cl_chain.proofs.group_moments.reads_of.Goals as goal

pub jobs_of-requires : goal.jobs_of-requires
jobs_of-requires c = omega (
  arith,
  c.requires.is_task,
  c.requires.in_form.tasks,
  count_is c.args.model.now,
  ap (λ (t : JobTable). length t.jobs) c.table.ensures,
)

pub returns-in-Explicit : goal.returns-in-Explicit
returns-in-Explicit c = IfOk-weaker c.ends_of.result _ _
    (reads_explicitly c.args.model.now c.args.run.now c.args.task c.args.place c.requires.is_task c.requires.is_runnable _
    c.access_of.ensures.kind c.in-Explicit.is) c.ends_of.ensures

pub returns-in-Implicit : goal.returns-in-Implicit
returns-in-Implicit c = IfOk-weaker c.ends_of-in-Implicit.result _ _
    (reads_implicitly c.args.model.now c.args.run.now c.args.task c.args.place c.requires.is_task c.requires.is_runnable _
    c.access_of.ensures.kind c.in-Implicit.is) c.ends_of-in-Implicit.ensures

pub returns-in-Timed : goal.returns-in-Timed
returns-in-Timed c = IfOk-weaker c.arrivals_of.result _ _
    (reads_timed c.args.model.now c.args.run.now c.args.task c.args.place c.requires.is_task c.requires.is_runnable _
    c.access_of.ensures.kind c.in-Timed.is c.jobs_of.result.now
    (c.jobs_of.ensures ∙ ap (λ (t : JobTable). table_jobs t c.args.task) c.table.ensures)) c.arrivals_of.ensures
