use Rattle.cl_designs.specs.Cuts.{cut_line}
use Rattle.cl_text.proofs.MoreLines.{line_more}
use Rattle.cl_designs.proofs.cuts.put_cuts.Goals as goal

pub loop-chain-preserved : goal.loop-chain-preserved
loop-chain-preserved c =
    line_more (cut_line c.args.model.now c.args.answers.now) c.args.text.now c.loop-chain.text c.put_chain.new.text c.loop-chain.chain c.loop-chain.invariant c.in_ok-put_chain.ensures
