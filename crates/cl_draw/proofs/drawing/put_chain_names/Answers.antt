use Rattle.std.proofs.Common.{length, arith}
use Rattle.cl_draw.specs.Picture.{chain_name}
use Rattle.cl_picture.proofs.Printing.{no_elements, numbered_elements, all_numbered}
use Rattle.cl_draw.proofs.drawing.put_chain_names.Goals as goal

pub loop-chain-init : goal.loop-chain-init
loop-chain-init c = no_elements _

pub loop-chain-preserved : goal.loop-chain-preserved
loop-chain-preserved c = numbered_elements (chain_name c.args.model.now) _ _ _ c.loop-chain.chain c.loop-chain.invariant (c.in_ok-put_chain_name.ensures)

pub returns : goal.returns
returns c = all_numbered (chain_name c.args.model.now) _ _ c.loop-chain.chain (length c.args.model.now.chains) (omega (arith, c.loop-chain-test.false, c.loop-chain.auto.chain-end, c.chains-chain-end.ensures.count)) c.loop-chain.invariant
