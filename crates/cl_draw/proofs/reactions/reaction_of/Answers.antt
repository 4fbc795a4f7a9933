use Rattle.std.proofs.Common.{arith}
use Rattle.std.specs.Prelude.{slice_index}
use Rattle.cl_model.specs.Groups.{group_at, groups_at}
use Rattle.cl_runs.specs.{RunChains.run_moments, SystemOf.system_of}
use Rattle.cl_chain.specs.JobChains.{job_chain_of}
use Rattle.cl_draw.specs.{declared.stops.Stop.Stop, Reactions.{IsStop, no_drawn_stop}}
use Rattle.cl_draw.proofs.{FirstItems.one_more_first, ReactionFacts.{written_here, stop_here}}
use Rattle.cl_draw.proofs.reactions.reaction_of.Goals as goal

pub stop_of-requires-clause-writes : goal.stop_of-requires-clause-writes
stop_of-requires-clause-writes c = written_here (system_of c.args.model.now) c.args.run.now (groups_at c.args.model.now c.args.chain) (job_chain_of c.args.longest.now) c.requires.complete
    c.loop-place.place (omega (arith, c.loop-place-test.true, c.loop-place.auto.place-end, c.group_count-place-end.ensures.count)) c.group-group.result c.group-group.ensures.group
    c.as_slice-jobs.result.now c.as_slice-jobs.ensures

pub loop-place-preserved : goal.loop-place-preserved
loop-place-preserved c = one_more_first
    (λ i (stop : Stop). IsStop (run_moments (system_of c.args.model.now) c.args.run.now) (group_at (groups_at c.args.model.now c.args.chain) i) (slice_index c.args.longest.now.jobs i) stop)
    no_drawn_stop c.loop-place.place c.loop-place.stops _ _ c.loop-place.invariant
    (stop_here (run_moments (system_of c.args.model.now) c.args.run.now) (groups_at c.args.model.now c.args.chain) c.args.longest.now.jobs c.loop-place.place c.group-group.result
    c.group-group.ensures.group c.as_slice-jobs.result.now c.as_slice-jobs.ensures _ c.in_ok-stop_of.ensures)
    c.in_ok-push.ensures.ok
