use Rattle.cl_check.proofs.ModelsInOrder.{legal_chain_in_order}
use Rattle.cl_draw.proofs.reactions.longest_reaction.Goals as goal

pub measure-requires-clause-ordered : goal.measure-requires-clause-ordered
measure-requires-clause-ordered c =
    legal_chain_in_order c.args.model.now c.plain-valid.ensures.valid c.args.run.now c.requires.legal c.args.chain
