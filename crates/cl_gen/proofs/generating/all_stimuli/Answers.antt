use Rattle.std.proofs.Common.{arith}
use Rattle.cl_gen.specs.Generated.{generated_stimulus}
use Rattle.cl_gen.proofs.MappedRanges.{mapped_more}
use Rattle.cl_gen.proofs.generating.all_stimuli.Goals as goal

pub loop-number-preserved : goal.loop-number-preserved
loop-number-preserved c =
    mapped_more generated_stimulus 0 c.loop-number.number c.loop-number.number _ _ _ (omega arith) c.loop-number.invariant
    c.in_ok-stimulus.ensures c.in_ok-push.ensures.ok
