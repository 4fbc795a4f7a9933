use Rattle.std.proofs.Common.{List, ◌++◌, ap, ◌∙◌}
use Rattle.cl_model.specs.{declared.task.{RunnableDef.RunnableDef, TaskDef.TaskDef}, ByNumber.task_at}
use Rattle.cl_runs.specs.{declared.job.{Job.Job, JobTable.JobTable}, Table.table_jobs}
use Rattle.cl_traces.specs.SaidOfRules.{time_text}
use Rattle.cl_traces.proofs.broken.put_time_of.Goals as goal

pub returns : goal.returns
returns c =
    let old = c.args.text.now in
    let runnables = (task_at c.args.model.now c.args.task).runnables in
    c.in_ok-put_time.ensures
    ∙ ap (λ (those : List RunnableDef). old ++ time_text those c.jobs_of.result.now)
    (c.as_slice-runnables.ensures ∙ ap (λ (task : TaskDef). task.runnables) c.task.ensures.task)
    ∙ ap (λ (jobs : List Job). old ++ time_text runnables jobs) c.jobs_of.ensures
    ∙ ap (λ (t : JobTable). old ++ time_text runnables (table_jobs t c.args.task)) c.table.ensures
