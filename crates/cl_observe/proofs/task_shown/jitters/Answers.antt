use Rattle.std.proofs.Common.{◌+◌, Some, sym, ap, subst, ◌∙◌, arith}
use Rattle.std.specs.Prelude.{pos, ◌-ℤ◌}
use Rattle.std.proofs.lemmas.List.{get_or_default}
use Rattle.cl_runs.specs.{declared.job.Job.Job, Table.no_job}
use Rattle.cl_observe.specs.{declared.values.Spread.Spread, Values.IsSpreadOf, Inner.{Choices.or_number, JobLists.{HasListedJitter, HasBelow}}}
use Rattle.cl_observe.proofs.ListedJobs.{none_below, jitter_next, jitters_all}
use Rattle.cl_observe.proofs.task_shown.jitters.Goals as goal

pub loop-place-init : goal.loop-place-init
loop-place-init c = none_below (HasListedJitter c.args.jobs.now)

pub returns : goal.returns
returns c = jitters_all c.args.jobs.now c.loop-place.place c.loop-place.spread (omega (arith, c.loop-place-test.false)) c.loop-place.invariant

pub loop-place-preserved : goal.loop-place-preserved
loop-place-preserved c =
    let jobs = c.args.jobs.now in
    let place = c.loop-place.place in
    let same = c.index-jobs-place.is ∙ get_or_default jobs place c.index-jobs-place.result no_job c.loop-place-test.true in
    subst (λ (spread : Spread). IsSpreadOf (HasBelow (place + 1) (HasListedJitter jobs)) (Some spread))
    (sym (c.or_jitter.ensures ∙ ap (λ (job : Job). or_number c.loop-place.spread (pos job.release -ℤ pos job.arrival)) same))
    (jitter_next jobs place c.loop-place.spread c.loop-place-test.true c.loop-place.invariant)
