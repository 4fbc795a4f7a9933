use Rattle.std.proofs.Common.{[], ap, ◌∙◌, arith, length, ◌++◌, ◌≡◌}
use Rattle.std.specs.List.{flat_map, range_with_len}
use Rattle.std.proofs.lemmas.List.{get_or_default}
use Rattle.cl_runs.specs.Run.{jobs_of}
use Rattle.cl_trace.specs.Trace.{job_items, task_items, text_of}
use Rattle.cl_trace.proofs.{Puts.lines_more, StretchTasks.{task_within, tasks_are}}
use Rattle.cl_trace.proofs.writing.put_jobs.Goals as goal

pub bounds-as_slice-task : goal.bounds-as_slice-task
bounds-as_slice-task c =
    rw (c.as_slice.ensures, c.table.ensures) (task_within c.args.model.now c.args.run.now c.loop-task.task c.requires (omega (arith, c.loop-task-test.true, c.tasks-task-end.ensures)))

pub loop-task-preserved : goal.loop-task-preserved
loop-task-preserved c =
    let within = task_within c.args.model.now c.args.run.now c.loop-task.task c.requires (omega (arith, c.loop-task-test.true, c.tasks-task-end.ensures)) in
    let jobs : c.as_slice-in-loop-task.result.now ≡ jobs_of c.args.run.now c.loop-task.task
    = c.as_slice-in-loop-task.ensures ∙ (rw (c.as_slice.ensures, c.table.ensures) at c.index-as_slice-task.is) ∙ get_or_default c.args.run.now.table.jobs c.loop-task.task c.index-as_slice-task.result [] within in
    lines_more c.args.model.now (task_items c.args.run.now) c.args.text.now c.loop-task.text c.put_task.new.text c.loop-task.task c.loop-task.invariant
    (rw jobs at c.in_ok-put_task.ensures)

pub returns : goal.returns
unfolding job_items
returns c =
    let all : c.loop-task.task ≡ length c.args.run.now.table.jobs
    = omega (arith, tasks_are c.args.model.now c.args.run.now c.requires, c.loop-task-test.false, c.loop-task.auto.task-end, c.tasks-task-end.ensures) in
    c.loop-task.invariant ∙ ap (λ n. c.args.text.now ++ text_of c.args.model.now (flat_map (task_items c.args.run.now) (range_with_len 0 n))) all
