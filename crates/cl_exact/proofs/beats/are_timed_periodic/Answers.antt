use Rattle.std.proofs.Common.{◌≡◌, ap, sym, ◌∙◌, take, take_all, arith}
use Rattle.cl_model.specs.Groups.{no_group}
use Rattle.cl_runs.specs.SystemOf.{system_of}
use Rattle.cl_exact.specs.TimedPeriodic.{are_timed_periodic}
use Rattle.cl_exact.proofs.ModelBeats.{nothing_fails, fails_at, passes_more}
use Rattle.cl_exact.proofs.beats.are_timed_periodic.Goals as goal

pub loop-group-init : goal.loop-group-init
loop-group-init c = nothing_fails (system_of c.args.model.now)

pub is_timed_periodic_task-requires : goal.is_timed_periodic_task-requires
is_timed_periodic_task-requires c = (c.requires c.loop-group.group-index _ c.loop-group-test.true).known

pub returns-then-not-is_timed_periodic_task : goal.returns-then-not-is_timed_periodic_task
unfolding no_group
returns-then-not-is_timed_periodic_task c =
    sym (fails_at (system_of c.args.model.now) c.args.groups.now c.loop-group.group-index c.loop-group-test.true
    (sym c.is_timed_periodic_task.ensures ∙ c.if-not-is_timed_periodic_task.true))

pub loop-group-preserved : goal.loop-group-preserved
unfolding no_group
loop-group-preserved c =
    passes_more (system_of c.args.model.now) c.args.groups.now c.loop-group.group-index c.loop-group-test.true
    c.loop-group.invariant (sym c.is_timed_periodic_task.ensures ∙ c.if-not-is_timed_periodic_task.false)

pub returns : goal.returns
returns c =
    let groups = c.args.groups.now in
    let whole : take c.loop-group.group-index groups ≡ groups = take_all c.loop-group.group-index groups (omega (arith, c.loop-group-test.false)) in
    sym c.loop-group.invariant ∙ ap (are_timed_periodic (system_of c.args.model.now)) whole
