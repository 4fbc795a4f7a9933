use Rattle.std.proofs.Common.{length, ap, ◌∙◌, subst, sym, below_more, arith, rules}
use Rattle.std.proofs.lemmas.Bool.{false≢true}
use Rattle.cl_runs.specs.{declared.job.JobTable.JobTable, Table.table_jobs}
use Rattle.cl_runs.proofs.ModelSystem.{count_is}
use Rattle.cl_check.specs.InOrder.{AreJobsInOrder}
use Rattle.cl_check.proofs.in_order.is_in_order.Goals as goal

pub jobs_of-requires : goal.jobs_of-requires
jobs_of-requires c = omega (
  arith,
  c.requires.tasks,
  count_is c.args.model.now,
  c.tasks-task-end.ensures.count,
  c.loop-task-test.true,
  ap (λ (t : JobTable). length t.jobs) c.table-table.ensures,
)

pub returns-then-not-are_jobs_in_order : goal.returns-then-not-are_jobs_in_order
returns-then-not-are_jobs_in_order c =
    let jobs = c.jobs_of.ensures ∙ ap (λ (t : JobTable). table_jobs t c.loop-task.task) c.table-table.ensures in (
      λ is. absurd (false≢true is),
      λ ordered. c.if-not-are_jobs_in_order.ensures.1 (subst AreJobsInOrder (sym jobs)
          (ordered c.loop-task.task (omega (arith, count_is c.args.model.now, c.tasks-task-end.ensures.count, c.loop-task-test.true)))),
    )

pub loop-task-preserved : goal.loop-task-preserved
loop-task-preserved c =
    let jobs = c.jobs_of.ensures ∙ ap (λ (t : JobTable). table_jobs t c.loop-task.task) c.table-table.ensures in
    below_more _ _ c.loop-task.invariant (subst AreJobsInOrder jobs (c.if-not-are_jobs_in_order.ensures.0 (search rules)))

pub returns : goal.returns
returns c = (
  λ is task within. c.loop-task.invariant task
      (omega (arith, within, count_is c.args.model.now, c.tasks-task-end.ensures.count, c.loop-task-test.false)),
  λ ordered. search rules,
)
