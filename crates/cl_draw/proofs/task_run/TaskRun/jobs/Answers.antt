use Rattle.std.proofs.Common.{length, ap, arith}
use Rattle.cl_runs.specs.declared.job.JobTable.{JobTable}
use Rattle.cl_runs.proofs.ModelSystem.{count_is}
use Rattle.cl_draw.proofs.task_run.TaskRun.jobs.Goals as goal

pub jobs_of-requires : goal.jobs_of-requires
jobs_of-requires c = omega (arith, c.requires.is_task, c.requires.legal.in_form.tasks, count_is c.args.self.model.now, ap (λ (t : JobTable). length t.jobs) c.table.ensures)
