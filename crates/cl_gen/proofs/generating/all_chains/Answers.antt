use Rattle.std.proofs.Common.{arith}
use Rattle.cl_gen.specs.Generated.{generated_chain}
use Rattle.cl_gen.proofs.MappedRanges.{mapped_more}
use Rattle.cl_gen.proofs.generating.all_chains.Goals as goal

pub loop-number-preserved : goal.loop-number-preserved
loop-number-preserved c =
    mapped_more generated_chain 0 c.loop-number.number c.loop-number.number _ _ _ (omega arith) c.loop-number.invariant
    c.in_ok-chain.ensures c.in_ok-push.ensures.ok
