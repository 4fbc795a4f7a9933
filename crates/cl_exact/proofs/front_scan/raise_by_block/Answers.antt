use Rattle.std.proofs.Common.{◌≡◌, ℕ, ◌+◌, ◌-◌, ◌<◌, length, slice_index, sym, subst, ◌∙◌, arith}
use Rattle.std.proofs.lemmas.List.{get_or-set_other, length-set}
use Rattle.cl_exact.specs.Inner.{Blocks.{IsEarlyBlock, AreWrites}, Fronts.{IsGreatestTo, AreGreatestTo}}
use Rattle.cl_exact.proofs.{BlockFacts.{are_rising, are_before, hopped_writes}, FrontScans.{writes_in_order, raised_by_block, more_places, no_places}}
use Rattle.cl_exact.proofs.front_scan.raise_by_block.Goals as goal

pub raised-requires-clause-in_order : goal.raised-requires-clause-in_order
raised-requires-clause-in_order c =
    writes_in_order c.args.beats.now c.requires.beats 0 c.args.first c.requires.beats.some c.fill_writes.new.writes c.fill_starts.new.starts
    c.fill_writes.ensures c.fill_starts.ensures (c.fill_writes.auto.writes ∙ c.requires.as_many ∙ sym c.fill_starts.auto.starts)

pub loop-i-init : goal.loop-i-init
loop-i-init c = record {
  some = omega arith;
  writes = c.fill_writes.ensures;
  raised = λ from before known.
      let ends = c.fill_writes.new.writes in
      more_places c.args.beats.now 0 from (c.args.first + length ends) c.args.greatest.now c.raised.result (omega (arith, c.requires.room, c.requires.some_groups))
      (no_places c.args.beats.now from (c.args.first + length ends) c.args.greatest.now)
      (raised_by_block c.args.beats.now c.requires.beats 0 c.args.first c.requires.beats.some ends c.fill_starts.new.starts
      c.fill_writes.ensures c.fill_starts.ensures (c.fill_writes.auto.writes ∙ c.requires.as_many ∙ sym c.fill_starts.auto.starts)
      from (slice_index c.args.greatest.now 0) c.raised.result before c.raised.ensures.not_less c.raised.ensures.above c.raised.ensures.one_of
      (known 0 c.requires.some_groups));
  left = λ place after below. get_or-set_other c.args.greatest.now 0 place c.raised.result 0 (λ same. omega (arith, after, same));
}

pub hop-requires-clause-rising : goal.hop-requires-clause-rising
hop-requires-clause-rising c =
    are_rising c.args.beats.now c.requires.beats (c.loop-i.i - 1) c.args.first c.loop-i.ends
    (omega (arith, c.loop-i-test.true, c.requires.size)) c.loop-i.invariant.writes

pub hop-requires-clause-early : goal.hop-requires-clause-early
hop-requires-clause-early c =
    are_before c.args.beats.now c.requires.beats (c.loop-i.i - 1) c.args.first c.loop-i.ends
    (omega (arith, c.loop-i-test.true, c.requires.size)) c.loop-i.invariant.writes
    (subst (IsEarlyBlock c.args.beats.now c.args.first) (sym (c.loop-i.auto.ends ∙ c.fill_writes.auto.writes)) c.requires.early)

pub raised-requires-in-loop-i-clause-in_order : goal.raised-requires-in-loop-i-clause-in_order
raised-requires-in-loop-i-clause-in_order c =
    let ends = c.hop.new.moments in
    writes_in_order c.args.beats.now c.requires.beats c.loop-i.i c.args.first (omega (arith, c.loop-i-test.true, c.requires.size)) ends c.fill_starts.new.starts
    (hopped_writes c.args.beats.now c.loop-i.i c.args.first c.loop-i.ends ends c.loop-i.invariant.some c.hop.auto.moments c.loop-i.invariant.writes c.hop.ensures)
    c.fill_starts.ensures (c.hop.auto.moments ∙ c.loop-i.auto.ends ∙ c.fill_writes.auto.writes ∙ c.requires.as_many ∙ sym c.fill_starts.auto.starts)

pub loop-i-preserved : goal.loop-i-preserved
loop-i-preserved c =
    let beats = c.args.beats.now in
    let place : ℕ = c.loop-i.i in
    let first : ℕ = c.args.first in
    let ends = c.hop.new.moments in
    let greatest = c.loop-i.greatest in
    let now : ℕ = c.raised-in-loop-i.result in
    let as_many : length ends ≡ length c.fill_writes.new.writes = c.hop.auto.moments ∙ c.loop-i.auto.ends in
    let room : place < length greatest = omega (
      arith,
      c.loop-i-test.true,
      c.requires.room,
      c.loop-i.auto.greatest,
      length-set c.args.greatest.now 0 c.raised.result,
    ) in
    let within : place < length beats = omega (arith, c.loop-i-test.true, c.requires.size) in
    let writes : AreWrites beats place first ends =
    hopped_writes beats place first c.loop-i.ends ends c.loop-i.invariant.some c.hop.auto.moments c.loop-i.invariant.writes c.hop.ensures in
    let same : place ≡ place + 1 - 1 = omega arith in
    let so_far : slice_index greatest place ≡ slice_index c.args.greatest.now place = c.loop-i.invariant.left place (omega arith) c.loop-i-test.true in
    record {
      some = omega arith;
      writes = subst (λ n. AreWrites beats n first ends) same writes;
      raised = λ from before known.
          more_places beats place from (first + length ends) greatest now room
          (subst (λ n. AreGreatestTo beats place from (first + n) greatest) (sym c.hop.auto.moments) (c.loop-i.invariant.raised from before known))
          (raised_by_block beats c.requires.beats place first within ends c.fill_starts.new.starts writes c.fill_starts.ensures
          (as_many ∙ c.fill_writes.auto.writes ∙ c.requires.as_many ∙ sym c.fill_starts.auto.starts)
          from (slice_index greatest place) now before c.raised-in-loop-i.ensures.not_less c.raised-in-loop-i.ensures.above c.raised-in-loop-i.ensures.one_of
          (subst (IsGreatestTo beats place from first) (sym so_far) (known place c.loop-i-test.true)));
      left = λ other after below.
          get_or-set_other greatest place other now 0 (λ equal. omega (arith, after, equal)) ∙ c.loop-i.invariant.left other (omega (arith, after)) below;
    }
