use Rattle.std.proofs.Common.{◌+◌, refl}
use Rattle.cl_gen.specs.Generated.{runnable_name}
use Rattle.cl_gen.proofs.MappedRanges.{mapped_more}
use Rattle.cl_gen.proofs.generating.steps.Goals as goal

pub loop-step-preserved : goal.loop-step-preserved
loop-step-preserved c =
    mapped_more runnable_name c.args.first c.loop-step.step (c.args.first + c.loop-step.step) _ _ _ refl c.loop-step.invariant
    c.runnable_name.ensures c.in_ok-push.ensures.ok
