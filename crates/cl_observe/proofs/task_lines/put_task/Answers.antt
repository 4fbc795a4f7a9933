use Rattle.std.proofs.Common.{length, ap, ◌∙◌, arith}
use Rattle.std.proofs.lemmas.Result.{on_ok_weaker}
use Rattle.cl_runs.specs.{declared.job.JobTable.JobTable, Table.table_jobs}
use Rattle.cl_runs.proofs.ModelSystem.{count_is}
use Rattle.cl_observe.proofs.PutTexts.{task_put}
use Rattle.cl_observe.proofs.task_lines.put_task.Goals as goal

pub jobs_of-jobs-requires : goal.jobs_of-jobs-requires
jobs_of-jobs-requires c =
    omega (arith, c.requires.task, c.requires.in_form.tasks, count_is c.args.model.now, ap (λ (t : JobTable). length t.jobs) c.table.ensures)

pub returns : goal.returns
returns c =
    let count = ap length (c.jobs_of-jobs.ensures ∙ ap (λ (t : JobTable). table_jobs t c.args.task) c.table.ensures) in
    on_ok_weaker c.put_times.result (λ last.
    task_put c.args.model.now c.args.run.now c.args.answer.now c.args.task (length c.jobs_of-jobs.result.now) c.shown_task-shown.result c.shown_task-shown.ensures count
    c.args.text.now c.put_shown.new.text c.put_jitter.new.text c.put_times.new.text c.in_ok-put_shown.ensures c.in_ok-put_jitter.ensures last) c.put_times.ensures
