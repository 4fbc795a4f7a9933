use Rattle.std.proofs.Common.{length, refl, ap, ◌∙◌, arith}
use Rattle.std.proofs.lemmas.Result.{IfOk-weaker}
use Rattle.cl_model.specs.ByNumber.{core_of}
use Rattle.cl_runs.specs.{declared.job.JobTable.JobTable, Table.table_jobs}
use Rattle.cl_runs.proofs.ModelSystem.{count_is}
use Rattle.cl_check.proofs.MomentsOfRun.{jobs_within, each_has_place, each_has_time, ends_are_apart}
use Rattle.cl_check.proofs.job_ends.ends_apart.Goals as goal

pub stretches-stretches-requires : goal.stretches-stretches-requires
stretches-stretches-requires c = omega (arith, c.requires.is_task, c.requires.apart.tasks, count_is c.args.model.now)

pub jobs_of-requires : goal.jobs_of-requires
jobs_of-requires c = omega (
  arith,
  jobs_within c.args.model.now c.task.ensures.valid c.args.run.now c.requires.in_form c.args.task c.requires.times c.requires.is_task (core_of c.args.model.now c.args.task) refl,
  ap (λ (t : JobTable). length t.jobs) c.table-table.ensures,
)

pub ends_in-requires-clause-fits : goal.ends_in-requires-clause-fits
ends_in-requires-clause-fits c = omega (
  arith,
  ap length c.stretches-stretches.ensures.entries_are,
  c.requires.apart.within c.args.task (omega (arith, c.requires.is_task, count_is c.args.model.now)),
  ap (λ (t : JobTable). t.ticks) c.table-table.ensures,
)

pub ends_in-requires-clause-places : goal.ends_in-requires-clause-places
ends_in-requires-clause-places c =
    let jobs = c.jobs_of.ensures ∙ ap (λ (t : JobTable). table_jobs t c.args.task) c.table-table.ensures in
    rw jobs (each_has_place c.args.model.now c.task.ensures.valid c.args.run.now c.requires.in_form c.args.task c.requires.times c.requires.is_task
    (core_of c.args.model.now c.args.task) refl c.args.place c.requires.is_runnable)

pub ends_in-requires-clause-times : goal.ends_in-requires-clause-times
ends_in-requires-clause-times c =
    let jobs = c.jobs_of.ensures ∙ ap (λ (t : JobTable). table_jobs t c.args.task) c.table-table.ensures in
    rw jobs (each_has_time c.args.model.now c.task.ensures.valid c.args.run.now c.requires.in_form c.args.task c.requires.times c.requires.is_task
    (core_of c.args.model.now c.args.task) refl c.args.place c.requires.is_runnable)

pub returns : goal.returns
returns c =
    let jobs = c.jobs_of.ensures ∙ ap (λ (t : JobTable). table_jobs t c.args.task) c.table-table.ensures in
    IfOk-weaker c.ends_in.result _ _
    (λ ends found. ends_are_apart c.args.model.now c.task.ensures.valid c.args.run.now c.requires.in_form c.args.task c.requires.times c.requires.is_task
    (core_of c.args.model.now c.args.task) refl c.args.place c.requires.is_runnable
    c.args.end c.args.apart.now c.requires.apart c.stretches-stretches.result.now c.stretches-stretches.ensures c.jobs_of.result.now jobs ends found) c.ends_in.ensures
