use Rattle.cl_check.proofs.ModelsInOrder.{legal_chain_in_order}
use Rattle.cl_asks.proofs.job_chains.of_job.Goals as goal

pub forward-requires-clause-ordered : goal.forward-requires-clause-ordered
forward-requires-clause-ordered c = legal_chain_in_order c.args.model.now c.plain-valid.ensures.valid c.args.run.now c.requires.legal c.args.chain

pub backward-requires-clause-ordered : goal.backward-requires-clause-ordered
backward-requires-clause-ordered c = legal_chain_in_order c.args.model.now c.plain-valid.ensures.valid c.args.run.now c.requires.legal c.args.chain
