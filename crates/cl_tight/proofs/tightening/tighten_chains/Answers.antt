use Rattle.std.proofs.Common.{arith}
use Rattle.cl_tight.proofs.TightLists.{more_chains}
use Rattle.cl_tight.proofs.tightening.tighten_chains.Goals as goal

pub loop-chain-preserved : goal.loop-chain-preserved
loop-chain-preserved c = record {
  answers = more_chains c.args.model.now c.loop-chain.chain c.loop-chain.answers c.push.new.self c.in_ok-tighten_chain.field-0
      (omega (arith, c.loop-chain-test.true, c.chains-chain-end.ensures.count)) c.loop-chain.invariant.answers c.in_ok-tighten_chain.ensures.answer c.in_ok-push.ensures.ok;
  windows = c.in_ok-tighten_chain.ensures.windows;
}
