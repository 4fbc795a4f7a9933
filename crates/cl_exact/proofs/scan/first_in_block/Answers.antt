use Rattle.std.proofs.Common.{◌+◌, subst, sym, ◌∙◌}
use Rattle.cl_exact.specs.Inner.Scans.{NoneHas, IsFirstWith}
use Rattle.cl_exact.proofs.ScanFacts.{block_in_order, block_without, block_first}
use Rattle.cl_exact.proofs.scan.first_in_block.Goals as goal

pub first_gap-requires-clause-in_order : goal.first_gap-requires-clause-in_order
first_gap-requires-clause-in_order c = block_in_order c.args.beats.now c.requires.beats c.args.first c.fill_ends.new.ends c.fill_starts.new.starts
    c.fill_ends.ensures c.fill_starts.ensures (c.fill_ends.auto.ends ∙ c.requires.as_many ∙ sym c.fill_starts.auto.starts)

pub returns-in-Some : goal.returns-in-Some
returns-in-Some c =
    subst (λ size. IsFirstWith c.args.beats.now c.args.first size c.args.reaction (c.args.first + c.in-Some.place)) c.fill_ends.auto.ends
    (block_first c.args.beats.now c.requires.beats c.args.first c.fill_ends.new.ends c.fill_starts.new.starts c.fill_ends.ensures c.fill_starts.ensures
    (c.fill_ends.auto.ends ∙ c.requires.as_many ∙ sym c.fill_starts.auto.starts) c.args.reaction c.in-Some.place c.in-Some.ensures.found)

pub returns-in-None : goal.returns-in-None
returns-in-None c =
    subst (λ size. NoneHas c.args.beats.now c.args.first size c.args.reaction) c.fill_ends.auto.ends
    (block_without c.args.beats.now c.requires.beats c.args.first c.fill_ends.new.ends c.fill_starts.new.starts c.fill_ends.ensures c.fill_starts.ensures
    (c.fill_ends.auto.ends ∙ c.requires.as_many ∙ sym c.fill_starts.auto.starts) c.args.reaction c.in-None.ensures.nowhere)
