use Rattle.std.proofs.Common.{length, ap, ◌∙◌, arith}
use Rattle.std.proofs.lemmas.Result.{IfOk-weaker}
use Rattle.cl_runs.specs.{declared.job.JobTable.JobTable, Table.table_jobs}
use Rattle.cl_check.proofs.MomentsOfRun.{core_within, jobs_within, each_has_place, each_has_time, moments_are}
use Rattle.cl_check.proofs.job_moments.moments.Goals as goal

pub stretches-stretches-requires : goal.stretches-stretches-requires
stretches-stretches-requires c = core_within c.args.model.now c.task.ensures.valid c.args.run.now c.requires.in_form c.args.task c.requires.times c.requires.is_task c.core_of.result c.core_of.ensures.core

pub jobs_of-requires : goal.jobs_of-requires
jobs_of-requires c = omega (
  arith,
  jobs_within c.args.model.now c.task.ensures.valid c.args.run.now c.requires.in_form c.args.task c.requires.times c.requires.is_task c.core_of.result c.core_of.ensures.core,
  ap (λ (t : JobTable). length t.jobs) c.table-table.ensures,
)

pub moments_in-requires-clause-places : goal.moments_in-requires-clause-places
moments_in-requires-clause-places c =
    let jobs = c.jobs_of.ensures ∙ ap (λ (t : JobTable). table_jobs t c.args.task) c.table-table.ensures in
    rw jobs (each_has_place c.args.model.now c.task.ensures.valid c.args.run.now c.requires.in_form c.args.task c.requires.times c.requires.is_task
    c.core_of.result c.core_of.ensures.core c.args.place c.requires.is_runnable)

pub moments_in-requires-clause-times : goal.moments_in-requires-clause-times
moments_in-requires-clause-times c =
    let jobs = c.jobs_of.ensures ∙ ap (λ (t : JobTable). table_jobs t c.args.task) c.table-table.ensures in
    rw jobs (each_has_time c.args.model.now c.task.ensures.valid c.args.run.now c.requires.in_form c.args.task c.requires.times c.requires.is_task
    c.core_of.result c.core_of.ensures.core c.args.place c.requires.is_runnable)

pub returns : goal.returns
returns c =
    let jobs = c.jobs_of.ensures ∙ ap (λ (t : JobTable). table_jobs t c.args.task) c.table-table.ensures in
    IfOk-weaker c.moments_in.result _ _
    (λ moments found. moments_are c.args.model.now c.task.ensures.valid c.args.run.now c.requires.in_form c.args.task c.requires.times c.requires.is_task
    c.core_of.result c.core_of.ensures.core c.args.place c.requires.is_runnable
    c.stretches-stretches.result.now c.stretches-stretches.ensures c.jobs_of.result.now jobs moments found) c.moments_in.ensures
