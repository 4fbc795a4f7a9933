use Rattle.std.proofs.Common.{arith}
use Rattle.cl_model.proofs.GroupFacts.{groups_at_few}
use Rattle.cl_draw.specs.Lengths.{groups_of_chain}
use Rattle.cl_draw.proofs.TaskSums.{one_more_number}
use Rattle.cl_draw.proofs.room.group_count.Goals as goal

pub loop-chain-preserved : goal.loop-chain-preserved
loop-chain-preserved c = record {
  groups = omega (arith, c.loop-chain.invariant.groups, c.group_count.ensures.count, one_more_number (groups_of_chain c.args.model.now) c.loop-chain.chain);
  most = omega (
    arith,
    c.loop-chain.invariant.most,
    c.group_count.ensures.count,
    groups_at_few c.args.model.now c.chains-chain-end.ensures.valid c.loop-chain.chain (omega (arith, c.loop-chain-test.true, c.chains-chain-end.ensures.count)),
  );
}
