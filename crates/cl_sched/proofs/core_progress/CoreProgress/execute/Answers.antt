use Rattle.std.proofs.Common.{◌≡◌, ◌<◌, ◌↔◌, List, length, map, refl, ap, sym, ◌∙◌, subst, arith}
use Rattle.std.specs.Prelude.{IsTrue}
use Rattle.cl_model.specs.{declared.task.TaskDef.TaskDef, ByNumber.task_at}
use Rattle.cl_runs.specs.{declared.job.Job.Job, SystemOf.{range_of, system_of}, Table.table_jobs, TaskTiming.timing_at}
use Rattle.cl_runs.proofs.ModelSystem.{ranges_are}
use Rattle.cl_sched.specs.{declared.progress.Progress.Progress, Progress.IsHolding, Inner.TakingTime.TakeTime, CoreProgress.progress_at}
use Rattle.cl_sched.proofs.{LawfulTables.lawful_there, ModelJobs.{jobs_take_time, in_lists}, Executing.{progress_read, has_executed, some_come}}
use Rattle.cl_sched.proofs.core_progress.CoreProgress.execute.Goals as goal

pub task-requires : goal.task-requires
task-requires c =
    let task_is = progress_read c.args.self.now.tasks.items c.args.index c.index-task.result.now c.requires.index c.index-task.ensures in
    omega (arith, ap (λ (p : Progress). p.task) task_is, c.requires.task)

pub after-moved-requires-clause-take_time : goal.after-moved-requires-clause-take_time
after-moved-requires-clause-take_time c =
    let task_is = progress_read c.args.self.now.tasks.items c.args.index c.index-task.result.now c.requires.index c.index-task.ensures in
    subst TakeTime (sym c.jobs_of-jobs.ensures)
    (jobs_take_time c.args.model.now c.args.table.now c.index-task.result.now.task
    (lawful_there _ _ _ c.args.table.now (ap (λ (p : Progress). (timing_at (system_of c.args.model.now) p.task).core) (sym task_is)) c.requires.lawful)
    (omega (arith, ap (λ (p : Progress). p.task) task_is, c.requires.task)) c.task.ensures.valid)

pub is_holding-requires : goal.is_holding-requires
is_holding-requires c =
    let model = c.args.model.now in
    let table = c.args.table.now in
    let tasks = c.args.self.now.tasks.items in
    let task = c.index-task.result.now in
    let moved = c.after-moved.result in
    let task_is = progress_read tasks c.args.index task c.requires.index c.index-task.ensures in
    let same : moved.task ≡ task.task = c.after-moved.ensures.task in
    let within : moved.task < length model.tasks = omega (arith, same, ap (λ (p : Progress). p.task) task_is, c.requires.task) in
    let (done, come) = some_come table c.args.ticks (progress_at tasks c.args.index) task moved c.jobs_of-jobs.result.now task_is
    c.jobs_of-jobs.ensures same c.after-moved.ensures.further c.requires.left in
    in_lists model table moved.task
    (lawful_there _ _ _ table (sym (ap (λ i. (timing_at (system_of model) i).core) same
    ∙ ap (λ (p : Progress). (timing_at (system_of model) p.task).core) task_is)) c.requires.lawful) within c.task.ensures.valid c.as_slice-runnables.result.now c.jobs_of-jobs.result.now done moved
    (c.as_slice-runnables.ensures ∙ ap (λ (t : TaskDef). t.runnables) c.task.ensures.task ∙ ap (λ i. (task_at model i).runnables) (sym same))
    (c.jobs_of-jobs.ensures ∙ ap (table_jobs table) (sym same)) come

pub returns : goal.returns
returns c =
    let model = c.args.model.now in
    let table = c.args.table.now in
    let tasks = c.args.self.now.tasks.items in
    let task = c.index-task.result.now in
    let moved = c.after-moved.result in
    let task_is = progress_read tasks c.args.index task c.requires.index c.index-task.ensures in
    let same : moved.task ≡ task.task = c.after-moved.ensures.task in
    let within : moved.task < length model.tasks = omega (arith, same, ap (λ (p : Progress). p.task) task_is, c.requires.task) in
    let ranges : (timing_at (system_of model) moved.task).ranges ≡ map range_of c.as_slice-runnables.result.now
    = ranges_are model moved.task within ∙ ap (λ i. map range_of (task_at model i).runnables) same
    ∙ sym (ap (map range_of) (c.as_slice-runnables.ensures ∙ ap (λ (t : TaskDef). t.runnables) c.task.ensures.task)) in
    let holding = subst (λ (jobs : List Job). IsTrue c.is_holding.result ↔ IsHolding (timing_at (system_of model) moved.task) jobs moved)
    (c.jobs_of-jobs.ensures ∙ ap (table_jobs table) (sym same)) (c.is_holding.ensures (timing_at (system_of model) moved.task) ranges) in
    has_executed _ table c.args.self.now _ c.args.index c.args.ticks task moved c.jobs_of-jobs.result.now c.is_holding.result c.requires.index
    c.index-task.ensures c.jobs_of-jobs.ensures same c.after-moved.ensures.priority c.after-moved.ensures.further holding c.index_if-self.ensures refl refl
