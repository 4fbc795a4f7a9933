use Rattle.std.proofs.Common.{◌+◌, ◌<◌, Option, length, sym, ap, subst, ◌∙◌, arith}
use Rattle.std.proofs.lemmas.List.{get_or_default}
use Rattle.cl_runs.specs.{declared.job.Job.Job, Table.no_job}
use Rattle.cl_observe.specs.{declared.values.GreatestResponse.GreatestResponse, Values.IsGreatestResponseOf, Inner.{Choices.or_finish, JobLists.{HasListedResponse, HasBelow, finish_at}}}
use Rattle.cl_observe.proofs.ListedJobs.{none_below, response_next, responses_all}
use Rattle.cl_observe.proofs.task_shown.greatest_response.Goals as goal

pub loop-place-init : goal.loop-place-init
loop-place-init c = none_below (HasListedResponse c.args.jobs.now c.args.finishes.now)

pub returns : goal.returns
returns c = responses_all c.args.jobs.now c.args.finishes.now c.loop-place.place c.loop-place.greatest (omega (arith, c.loop-place-test.false)) c.loop-place.invariant

pub loop-place-preserved : goal.loop-place-preserved
loop-place-preserved c =
    let jobs = c.args.jobs.now in
    let finishes = c.args.finishes.now in
    let place = c.loop-place.place in
    let within : place < length jobs = omega (arith, c.loop-place-test.true, c.requires) in
    let same = get_or_default jobs place c.index-jobs-place.result no_job within in
    subst (λ (found : Option GreatestResponse). IsGreatestResponseOf (HasBelow (place + 1) (HasListedResponse jobs finishes)) found)
    (sym (c.or_finish-greatest.ensures ∙ ap (λ (job : Job). or_finish c.loop-place.greatest place job.arrival (finish_at finishes place)) same))
    (response_next jobs finishes place c.loop-place.greatest c.loop-place.invariant)
