use Rattle.std.proofs.Common.{◌≡◌, sym, ap, ◌∙◌, length, arith}
use Rattle.cl_runs.specs.{declared.job.JobTable.JobTable, SystemOf.system_of, Run.jobs_of, Table.table_jobs, TaskTiming.Timing}
use Rattle.cl_runs.proofs.ModelSystem.{timing_is, count_is}
use Rattle.cl_observe.proofs.ShownTasks.{task_shown}
use Rattle.cl_observe.proofs.task_shown.shown_task.Goals as goal

pub jobs_of-jobs-requires : goal.jobs_of-jobs-requires
jobs_of-jobs-requires c =
    omega (arith, c.requires.task, c.requires.in_form.tasks, count_is c.args.model.now, ap (λ (t : JobTable). length t.jobs) c.table-table.ensures)

pub returns : goal.returns
returns c =
    let model = c.args.model.now in
    let task = c.args.task in
    let jobs : c.jobs_of-jobs.result.now ≡ jobs_of c.args.run.now task = c.jobs_of-jobs.ensures ∙ ap (λ (t : JobTable). table_jobs t task) c.table-table.ensures in
    let deadline = c.deadline_of-deadline.ensures ∙ sym (ap (λ (t : Timing). t.deadline) (timing_is model task c.requires.task)) in
    task_shown (system_of model) c.args.run.now task c.args.finishes.now c.requires.finishes
    c.jobs_of-jobs.result.now c.deadline_of-deadline.result c.table-table.result.now.ticks _ jobs deadline (ap (λ (t : JobTable). t.ticks) c.table-table.ensures)
    c.count_misses.ensures c.greatest_response.ensures c.jitters.ensures
