use Rattle.std.proofs.Common.{ap, ◌∙◌}
use Rattle.std.proofs.lemmas.Result.{IfOk-weaker}
use Rattle.cl_model.specs.declared.task.AccessKind.TheVariants.{Explicit, Implicit, Timed}
use Rattle.cl_runs.specs.{declared.job.{Job.Job, JobTable.JobTable}, Table.table_jobs}
use Rattle.cl_draw.proofs.StopFacts.{job_found, read_by, reads_by, reads_somewhere}
use Rattle.cl_draw.proofs.stops.read_of.Goals as goal

pub start_of-requires-clause-starts : goal.start_of-requires-clause-starts
start_of-requires-clause-starts c = (
  (reads_somewhere c.args.model.now c.task.ensures.valid c.args.run.now c.requires.legal c.args.group c.requires.group.ordered c.args.job c.requires.writes).0,
  read_by c.args.model.now c.args.run.now c.args.group.task c.requires.group.known _ c.task.ensures.task Explicit c.in-Explicit.is c.args.job c.args.group.first
      (reads_somewhere c.args.model.now c.task.ensures.valid c.args.run.now c.requires.legal c.args.group c.requires.group.ordered c.args.job c.requires.writes).0
      (reads_somewhere c.args.model.now c.task.ensures.valid c.args.run.now c.requires.legal c.args.group c.requires.group.ordered c.args.job c.requires.writes).1,
)

pub start_of-requires-in-Implicit-clause-starts : goal.start_of-requires-in-Implicit-clause-starts
start_of-requires-in-Implicit-clause-starts c = (
  (reads_somewhere c.args.model.now c.task.ensures.valid c.args.run.now c.requires.legal c.args.group c.requires.group.ordered c.args.job c.requires.writes).0,
  read_by c.args.model.now c.args.run.now c.args.group.task c.requires.group.known _ c.task.ensures.task Implicit c.in-Implicit.is c.args.job c.args.group.first
      (reads_somewhere c.args.model.now c.task.ensures.valid c.args.run.now c.requires.legal c.args.group c.requires.group.ordered c.args.job c.requires.writes).0
      (reads_somewhere c.args.model.now c.task.ensures.valid c.args.run.now c.requires.legal c.args.group c.requires.group.ordered c.args.job c.requires.writes).1,
)

pub returns-in-Explicit : goal.returns-in-Explicit
returns-in-Explicit c = IfOk-weaker c.start_of.result _ _
    (λ s by. reads_by c.args.model.now c.args.run.now c.args.group.task c.requires.group.known _ c.task.ensures.task Explicit c.in-Explicit.is c.args.job c.args.group.first
    (reads_somewhere c.args.model.now c.task.ensures.valid c.args.run.now c.requires.legal c.args.group c.requires.group.ordered c.args.job c.requires.writes).0 s
    (reads_somewhere c.args.model.now c.task.ensures.valid c.args.run.now c.requires.legal c.args.group c.requires.group.ordered c.args.job c.requires.writes).1 by)
    c.start_of.ensures

pub returns-in-Implicit : goal.returns-in-Implicit
returns-in-Implicit c = IfOk-weaker c.start_of-in-Implicit.result _ _
    (λ s by. reads_by c.args.model.now c.args.run.now c.args.group.task c.requires.group.known _ c.task.ensures.task Implicit c.in-Implicit.is c.args.job c.args.group.first
    (reads_somewhere c.args.model.now c.task.ensures.valid c.args.run.now c.requires.legal c.args.group c.requires.group.ordered c.args.job c.requires.writes).0 s
    (reads_somewhere c.args.model.now c.task.ensures.valid c.args.run.now c.requires.legal c.args.group c.requires.group.ordered c.args.job c.requires.writes).1 by)
    c.start_of-in-Implicit.ensures

pub returns-in-Timed : goal.returns-in-Timed
returns-in-Timed c =
    reads_by c.args.model.now c.args.run.now c.args.group.task c.requires.group.known _ c.task.ensures.task Timed c.in-Timed.is c.args.job c.args.group.first
    (reads_somewhere c.args.model.now c.task.ensures.valid c.args.run.now c.requires.legal c.args.group c.requires.group.ordered c.args.job c.requires.writes).0 _
    (reads_somewhere c.args.model.now c.task.ensures.valid c.args.run.now c.requires.legal c.args.group c.requires.group.ordered c.args.job c.requires.writes).1
    (ap (λ (job : Job). job.arrival) (job_found _ _ (c.jobs_of.ensures ∙ ap (λ (t : JobTable). table_jobs t c.args.group.task) c.table.ensures) c.args.job
    (reads_somewhere c.args.model.now c.task.ensures.valid c.args.run.now c.requires.legal c.args.group c.requires.group.ordered c.args.job c.requires.writes).1.in_table _))
