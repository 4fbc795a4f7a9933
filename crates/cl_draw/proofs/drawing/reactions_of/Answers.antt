use Rattle.std.proofs.Common.{None}
use Rattle.cl_draw.specs.Reactions.{IsDrawnReaction}
use Rattle.cl_draw.proofs.FirstItems.{one_more_first}
use Rattle.cl_draw.proofs.drawing.reactions_of.Goals as goal

pub loop-chain-preserved : goal.loop-chain-preserved
loop-chain-preserved c = one_more_first (IsDrawnReaction c.args.model.now c.args.run.now) None c.loop-chain.chain c.loop-chain.reactions _ _ c.loop-chain.invariant
    c.in_ok-longest_reaction.ensures c.in_ok-push.ensures.ok
