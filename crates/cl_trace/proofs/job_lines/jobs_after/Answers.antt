use Rattle.cl_trace.specs.Trace.{JobOf}
use Rattle.cl_trace.proofs.JobLines.{item_longer, jobs_more, of_task_more}
use Rattle.cl_trace.proofs.job_lines.jobs_after.Goals as goal

pub loop-job-smaller : goal.loop-job-smaller
loop-job-smaller c =
    let read = rw c.in-Some.is at c.in_ok-job.ensures.some in
    item_longer c.args.model.now (JobOf c.args.task c.in-Some.job) c.loop-job.left.now c.in-Some.rest.now read.1

pub loop-job-preserved : goal.loop-job-preserved
loop-job-preserved c =
    let read = rw c.in-Some.is at c.in_ok-job.ensures.some in
    rw c.in_ok-push.ensures.ok (
      of_task_more c.args.model.now c.args.task c.args.text.now c.loop-job.jobs c.in-Some.job c.loop-job.invariant.0 read.0,
      jobs_more c.args.model.now c.args.task c.args.text.now c.loop-job.jobs c.in-Some.job c.loop-job.left.now c.in-Some.rest.now c.loop-job.invariant.1 read.1,
    )
