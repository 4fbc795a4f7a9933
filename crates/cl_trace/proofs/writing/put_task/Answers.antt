use Rattle.std.proofs.Common.{◌++◌, ap, ◌∙◌}
use Rattle.cl_text.specs.Line.{line}
use Rattle.cl_model.specs.ByNumber.{task_at}
use Rattle.cl_trace.specs.Trace.{item_text, job_line_words}
use Rattle.cl_trace.proofs.Puts.{put_job_more}
use Rattle.cl_trace.proofs.writing.put_task.Goals as goal

pub loop-job-preserved : goal.loop-job-preserved
unfolding item_text
loop-job-preserved c =
    put_job_more c.args.model.now c.args.task c.args.text.now c.loop-job.text c.put_job.new.text c.args.jobs.now c.loop-job.job-index c.job-item.result
    c.loop-job-test.true c.loop-job.invariant
    ((rw c.name_of-name.ensures.name at c.in_ok-put_job.ensures) ∙ ap (λ j. c.loop-job.text ++ line (job_line_words (task_at c.args.model.now c.args.task).name j)) c.job-item.is)
