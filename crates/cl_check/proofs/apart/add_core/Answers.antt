use Rattle.std.proofs.Common.{◌≡◌, ◌+◌, ◌<◌, None, length, get_or, refl, arith}
use Rattle.std.proofs.Math.Numerals.{add-one}
use Rattle.std.proofs.lemmas.List.{get_or_default}
use Rattle.cl_runs.specs.SystemOf.{system_of}
use Rattle.cl_runs.proofs.ModelSystem.{cores_are}
use Rattle.cl_run_data.specs.declared.stretches.Stretch.{Stretch}
use Rattle.cl_check.proofs.{FollowedRuns.{begins_first, begins_next, some_at, lasts_at, all_over}, ApartTasks.{takes_ticks, more_apart, core_apart}}
use Rattle.cl_check.proofs.apart.add_core.Goals as goal

pub stretches-stretch-items-requires : goal.stretches-stretch-items-requires
stretches-stretch-items-requires c = omega (arith, c.requires.core, c.requires.in_form.cores, cores_are c.args.model.now)

pub loop-stretch-init : goal.loop-stretch-init
loop-stretch-init c = record {
  apart = c.requires.before;
  begins = begins_first c.stretches-stretch-items.result.now 0 refl;
  within = omega arith;
}

pub add-requires-clause-takes : goal.add-requires-clause-takes
add-requires-clause-takes c =
    let on : c.args.core < (system_of c.args.model.now).cores = omega (arith, c.requires.core, cores_are c.args.model.now) in
    let stretches = c.stretches-stretch-items.result.now in
    let i = c.loop-stretch.stretch-index in
    let stretch : Stretch = get_or stretches i (record { who = None; end = 0 }) in
    let read : stretch ≡ get_or stretches i stretch = get_or_default stretches i _ _ c.loop-stretch-test.true in
    let ticks = c.requires.in_form.ticks c.args.core on in
    takes_ticks (system_of c.args.model.now) c.args.run.now c.requires.in_form c.args.core on c.loop-stretch.apart c.loop-stretch.from stretch
    (some_at c.args.run.now c.args.core stretches c.stretches-stretch-items.ensures ticks i c.loop-stretch.from stretch c.loop-stretch-test.true read c.loop-stretch.invariant.begins)
    (lasts_at c.args.run.now c.args.core stretches c.stretches-stretch-items.ensures ticks i c.loop-stretch.from stretch c.loop-stretch-test.true read c.loop-stretch.invariant.begins)
    c.loop-stretch.invariant.apart

pub add-requires-clause-ahead : goal.add-requires-clause-ahead
add-requires-clause-ahead c =
    let on : c.args.core < (system_of c.args.model.now).cores = omega (arith, c.requires.core, cores_are c.args.model.now) in
    let stretches = c.stretches-stretch-items.result.now in
    let i = c.loop-stretch.stretch-index in
    let stretch : Stretch = get_or stretches i (record { who = None; end = 0 }) in
    let read : stretch ≡ get_or stretches i stretch = get_or_default stretches i _ _ c.loop-stretch-test.true in
    (lasts_at c.args.run.now c.args.core stretches c.stretches-stretch-items.ensures (c.requires.in_form.ticks c.args.core on)
    i c.loop-stretch.from stretch c.loop-stretch-test.true read c.loop-stretch.invariant.begins).ahead

pub add-requires-clause-in_time : goal.add-requires-clause-in_time
add-requires-clause-in_time c =
    let on : c.args.core < (system_of c.args.model.now).cores = omega (arith, c.requires.core, cores_are c.args.model.now) in
    let stretches = c.stretches-stretch-items.result.now in
    let i = c.loop-stretch.stretch-index in
    let stretch : Stretch = get_or stretches i (record { who = None; end = 0 }) in
    let read : stretch ≡ get_or stretches i stretch = get_or_default stretches i _ _ c.loop-stretch-test.true in
    let lasts = lasts_at c.args.run.now c.args.core stretches c.stretches-stretch-items.ensures (c.requires.in_form.ticks c.args.core on)
    i c.loop-stretch.from stretch c.loop-stretch-test.true read c.loop-stretch.invariant.begins in
    omega (arith, lasts.within, c.loop-stretch.invariant.apart.ticks)

pub loop-stretch-preserved : goal.loop-stretch-preserved
loop-stretch-preserved c =
    let on : c.args.core < (system_of c.args.model.now).cores = omega (arith, c.requires.core, cores_are c.args.model.now) in
    let stretches = c.stretches-stretch-items.result.now in
    let i = c.loop-stretch.stretch-index in
    let stretch : Stretch = get_or stretches i (record { who = None; end = 0 }) in
    let read : stretch ≡ get_or stretches i stretch = get_or_default stretches i _ _ c.loop-stretch-test.true in
    let ticks = c.requires.in_form.ticks c.args.core on in
    let begins = c.loop-stretch.invariant.begins in
    let some = some_at c.args.run.now c.args.core stretches c.stretches-stretch-items.ensures ticks i c.loop-stretch.from stretch c.loop-stretch-test.true read begins in
    let lasts = lasts_at c.args.run.now c.args.core stretches c.stretches-stretch-items.ensures ticks i c.loop-stretch.from stretch c.loop-stretch-test.true read begins in
    record {
      apart = more_apart (system_of c.args.model.now) c.args.run.now c.requires.in_form c.args.core on c.loop-stretch.apart c.loop-stretch.from stretch some lasts
          c.loop-stretch.invariant.apart c.add.new.apart c.in_ok-add.ensures;
      begins = begins_next stretches i (i + 1) stretch.end stretch (add-one i) c.loop-stretch-test.true read refl;
      within = lasts.within;
    }

pub returns : goal.returns
returns c =
    let on : c.args.core < (system_of c.args.model.now).cores = omega (arith, c.requires.core, cores_are c.args.model.now) in
    let place : c.loop-stretch.stretch-index ≡ length c.stretches-stretch-items.result.now
    = omega (arith, c.loop-stretch-test.false, c.loop-stretch.auto.stretch-index-end) in
    let over = all_over c.args.run.now c.args.core c.stretches-stretch-items.result.now c.stretches-stretch-items.ensures
    (c.requires.in_form.ticks c.args.core on) c.loop-stretch.stretch-index c.loop-stretch.from place c.loop-stretch.invariant.begins in
    core_apart (system_of c.args.model.now) c.args.run.now c.requires.in_form c.args.core on c.loop-stretch.apart c.loop-stretch.from over
    c.loop-stretch.invariant.apart c.loop-stretch.invariant.within
