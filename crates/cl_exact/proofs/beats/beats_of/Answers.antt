use Rattle.std.proofs.Common.{◌≡◌, ◌+◌, ◌<◌, sym, subst, length, arith}
use Rattle.cl_model.specs.Groups.{no_group}
use Rattle.cl_runs.specs.SystemOf.{system_of}
use Rattle.cl_exact.proofs.ModelBeats.{AreFirstBeats, task_passes, beats_more, all_beats}
use Rattle.cl_exact.proofs.beats.beats_of.Goals as goal

pub beat_of-requires-clause-is_task : goal.beat_of-requires-clause-is_task
beat_of-requires-clause-is_task c = (c.requires.of_tasks c.loop-group.group-index _ c.loop-group-test.true).known

pub beat_of-requires-clause-periodic : goal.beat_of-requires-clause-periodic
unfolding no_group
beat_of-requires-clause-periodic c =
    task_passes (system_of c.args.model.now) c.args.groups.now c.loop-group.group-index c.requires.timed_periodic c.loop-group-test.true

pub push-requires : goal.push-requires
push-requires c =
    let few : length c.loop-group.beats.items < 64 = omega (arith, c.loop-group.invariant.beats.as_many, c.loop-group-test.true, c.requires.few) in
    (omega arith, few)

pub loop-group-preserved : goal.loop-group-preserved
unfolding no_group
loop-group-preserved c =
    let system = system_of c.args.model.now in
    record {
      beats = subst (AreFirstBeats system c.args.groups.now (c.loop-group.group-index + 1)) (sym c.push.ensures.items)
          (beats_more system c.args.groups.now c.loop-group.group-index c.loop-group.beats.items c.beat_of.result c.loop-group.invariant.beats
          c.beat_of.ensures.of c.beat_of.ensures.beat);
      valid = λ _. c.beat_of.ensures.valid;
    }

pub returns-clause-of : goal.returns-clause-of
returns-clause-of c =
    let system = system_of c.args.model.now in
    let groups = c.args.groups.now in
    let all : c.loop-group.group-index ≡ length groups = omega (arith, c.loop-group-test.false, c.loop-group.auto.group-index-end) in
    all_beats system groups c.requires.some c.requires.few c.loop-group.beats.items
    (subst (λ count. AreFirstBeats system groups count c.loop-group.beats.items) all c.loop-group.invariant.beats)

pub returns-clause-valid : goal.returns-clause-valid
returns-clause-valid c = c.loop-group.invariant.valid (omega (arith, c.requires.some, c.loop-group-test.false))
