use Rattle.std.proofs.Common.{◌+◌, [], ◌∷◌, length, length-append, sym, ap, ◌∙◌, subst}
use Rattle.cl_trace.specs.Inner.Bodies.{AreJobsOf}
use Rattle.cl_trace.proofs.JobLines.{lists_more, name_more}
use Rattle.cl_trace.proofs.job_lines.table_after.Goals as goal

pub loop-task-preserved : goal.loop-task-preserved
loop-task-preserved c =
    let lists = c.loop-task.lists in
    let of_task : AreJobsOf c.args.model.now (length lists) c.loop-task.left.now c.jobs_after.new.jobs c.in_ok-left.left.now
    = subst (λ t. AreJobsOf c.args.model.now t c.loop-task.left.now c.jobs_after.new.jobs c.in_ok-left.left.now) (sym c.loop-task.invariant.0) c.in_ok-left.ensures.jobs in
    rw c.in_ok-push.ensures.ok (
      length-append lists (c.jobs_after.new.jobs ∷ []) ∙ ap (λ n. n + 1) c.loop-task.invariant.0,
      lists_more c.args.model.now c.args.text.now lists c.loop-task.left.now c.jobs_after.new.jobs c.in_ok-left.left.now c.loop-task.invariant.1 of_task,
      name_more c.args.model.now c.loop-task.task c.loop-task.invariant.2 c.in_ok-left.ensures.named,
    )
