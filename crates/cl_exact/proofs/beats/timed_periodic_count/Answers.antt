use Rattle.std.proofs.Common.{sym, ◌∙◌}
use Rattle.cl_model.specs.Groups.{no_group}
use Rattle.cl_runs.specs.SystemOf.{system_of}
use Rattle.cl_exact.proofs.ModelBeats.{nothing_fails, passes_more}
use Rattle.cl_exact.proofs.beats.timed_periodic_count.Goals as goal

pub loop-place-init : goal.loop-place-init
loop-place-init c = nothing_fails (system_of c.args.model.now)

pub loop-place-preserved : goal.loop-place-preserved
unfolding no_group
loop-place-preserved c =
    passes_more (system_of c.args.model.now) c.args.groups.now c.loop-place.place c.loop-place-test.true
    c.loop-place.invariant (sym c.is_timed_periodic_task.ensures ∙ c.if-not-is_timed_periodic_task.false)
