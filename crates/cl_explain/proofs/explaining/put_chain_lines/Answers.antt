use Rattle.cl_explain.proofs.LateChains.{late_known}
use Rattle.cl_explain.proofs.explaining.put_chain_lines.Goals as goal

pub put_chain-requires-clause-known : goal.put_chain-requires-clause-known
put_chain-requires-clause-known g c =
    late_known c.args.model.now c.requires.valid c.args.chain c.requires.chain c.answer_chain-answer.result c.answer_chain-answer.ensures.answer
