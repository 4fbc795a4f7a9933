use Rattle.std.proofs.Common.{arith}
use Rattle.cl_analyse.proofs.AnswerLists.{more_chains}
use Rattle.cl_analyse.proofs.analysing.answer_chains.Goals as goal

pub loop-chain-preserved : goal.loop-chain-preserved
loop-chain-preserved g c = (
  more_chains c.args.model.now c.loop-chain.chain c.loop-chain.answers c.push.new.self c.answer_chain.result (omega (arith, c.chains-chain-end.ensures.count)) c.loop-chain.invariant.0 c.answer_chain.ensures.answer c.in_ok-push.ensures.ok,
  omega (arith, c.loop-chain.invariant.1, c.answer_chain.ensures.steps),
)
