use Rattle.std.proofs.Common.{length, sym, ap, arith}
use Rattle.cl_runs.specs.Run.{jobs_of}
use Rattle.cl_draw.proofs.CursorFacts.{no_time}
use Rattle.cl_draw.proofs.cursor.time_at.Goals as goal

pub returns-else-job-jobs : goal.returns-else-job-jobs
returns-else-job-jobs c = sym (no_time (jobs_of c.args.of.run.now c.args.of.task) c.args.job c.args.place (omega (arith, c.if-job-jobs.false, ap length c.jobs-jobs.ensures)))
