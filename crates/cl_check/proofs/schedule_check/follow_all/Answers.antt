use Rattle.std.proofs.Common.{◌≡◌, ◌<◌, length, arith}
use Rattle.std.proofs.lemmas.List.{get_or_default}
use Rattle.cl_runs.specs.SystemOf.{system_of}
use Rattle.cl_runs.proofs.ModelSystem.{cores_are}
use Rattle.cl_check.proofs.FollowedRuns.{lasts_at, all_over}
use Rattle.cl_check.proofs.schedule_check.follow_all.Goals as goal

pub stretches-stretch-items-requires : goal.stretches-stretch-items-requires
stretches-stretch-items-requires c = omega (arith, c.requires.core, c.requires.in_form.cores, cores_are c.args.model.now)

pub follow-requires-clause-lasts : goal.follow-requires-clause-lasts
follow-requires-clause-lasts c =
    let on : c.args.core < (system_of c.args.model.now).cores = omega (arith, c.requires.core, cores_are c.args.model.now) in
    let stretches = c.stretches-stretch-items.result.now in
    lasts_at c.args.run.now c.args.core stretches c.stretches-stretch-items.ensures (c.requires.in_form.ticks c.args.core on)
    c.loop-stretch.stretch-index c.loop-stretch.reached.tick _ c.loop-stretch-test.true
    (get_or_default stretches c.loop-stretch.stretch-index _ _ c.loop-stretch-test.true) c.loop-stretch.invariant.begins

pub returns : goal.returns
returns c =
    let on : c.args.core < (system_of c.args.model.now).cores = omega (arith, c.requires.core, cores_are c.args.model.now) in
    let place : c.loop-stretch.stretch-index ≡ length c.stretches-stretch-items.result.now
    = omega (arith, c.loop-stretch-test.false, c.loop-stretch.auto.stretch-index-end) in
    let over = all_over c.args.run.now c.args.core c.stretches-stretch-items.result.now c.stretches-stretch-items.ensures
    (c.requires.in_form.ticks c.args.core on) c.loop-stretch.stretch-index c.loop-stretch.reached.tick place c.loop-stretch.invariant.begins in
    λ t h. c.loop-stretch.invariant.followed.kept t (omega (arith, h, over))
