use Rattle.std.proofs.Common.{None}
use Rattle.cl_draw.specs.Reactions.{IsDrawnReaction}
use Rattle.cl_draw.proofs.FirstItems.{AreFirst}
use Rattle.cl_draw.proofs.drawing.reactions_of.Given as goal

abbrev pub invariant-loop-chain : goal.invariant-loop-chain
invariant-loop-chain l = AreFirst (IsDrawnReaction l.model l.run) None l.chain l.reactions
