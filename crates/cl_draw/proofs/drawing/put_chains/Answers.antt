use Rattle.std.proofs.Common.{length, arith}
use Rattle.cl_draw.specs.Picture.{chain_elements}
use Rattle.cl_picture.proofs.Printing.{no_elements, numbered_elements, all_numbered}
use Rattle.cl_draw.proofs.drawing.put_chains.Goals as goal

pub loop-chain-init : goal.loop-chain-init
loop-chain-init c = no_elements _

pub loop-chain-preserved : goal.loop-chain-preserved
loop-chain-preserved c = numbered_elements (chain_elements c.args.model.now c.args.drawing.now.window c.args.drawing.now.reactions) _ _ _ c.loop-chain.chain c.loop-chain.invariant (c.in_ok-put_chain_row.ensures)

pub returns : goal.returns
returns c = all_numbered (chain_elements c.args.model.now c.args.drawing.now.window c.args.drawing.now.reactions) _ _ c.loop-chain.chain (length c.args.model.now.chains) (omega (arith, c.loop-chain-test.false, c.loop-chain.auto.chain-end, c.chains-chain-end.ensures.count)) c.loop-chain.invariant
