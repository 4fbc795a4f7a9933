use Rattle.std.proofs.Common.{◌-◌, subst, sym, ◌∙◌, arith}
use Rattle.cl_exact.specs.Inner.Blocks.{IsEarlyBlock}
use Rattle.cl_exact.proofs.BlockFacts.{are_rising, are_before}
use Rattle.cl_exact.proofs.block.fill_ends.Goals as goal

pub hop-requires-clause-rising : goal.hop-requires-clause-rising
hop-requires-clause-rising c =
    are_rising c.args.beats.now c.requires.beats (c.loop-i.i - 1) c.args.first c.loop-i.ends (omega (arith, c.loop-i-test.true)) c.loop-i.invariant.writes

pub hop-requires-clause-early : goal.hop-requires-clause-early
hop-requires-clause-early c =
    are_before c.args.beats.now c.requires.beats (c.loop-i.i - 1) c.args.first c.loop-i.ends (omega (arith, c.loop-i-test.true)) c.loop-i.invariant.writes
    (subst (IsEarlyBlock c.args.beats.now c.args.first) (sym (c.loop-i.auto.ends ∙ c.fill_writes.auto.writes)) c.requires.early)
