use Rattle.std.proofs.Common.{◌+◌, ◌<◌, length, subst, sym, ◌∙◌, arith, inl, inr}
use Rattle.cl_exact.specs.Inner.{Beats.beat_in, Scans.IsGreatestOf}
use Rattle.cl_exact.proofs.{BeatFacts.job_small, ScanFacts.{block_in_order, block_above, block_first, greatest_stays, greatest_rises}}
use Rattle.cl_exact.proofs.scan.with_block.Goals as goal

pub overflow_add-start : goal.overflow_add-start
overflow_add-start c =
    omega (
      arith,
      c.requires.early,
      job_small (beat_in c.args.beats.now 0) (c.requires.beats.each 0 c.requires.beats.some).some_period
          (c.args.first + c.args.done + length c.args.ends.now),
    )

pub greatest_gap-requires-clause-in_order : goal.greatest_gap-requires-clause-in_order
greatest_gap-requires-clause-in_order c =
    block_in_order c.args.beats.now c.requires.beats (c.args.first + c.args.done) c.fill_ends.new.ends c.fill_starts.new.starts
    c.fill_ends.ensures c.fill_starts.ensures (c.fill_ends.auto.ends ∙ c.requires.as_many ∙ sym c.fill_starts.auto.starts)

pub first_gap-requires-clause-in_order : goal.first_gap-requires-clause-in_order
first_gap-requires-clause-in_order c =
    block_in_order c.args.beats.now c.requires.beats (c.args.first + c.args.done) c.fill_ends.new.ends c.fill_starts.new.starts
    c.fill_ends.ensures c.fill_starts.ensures (c.fill_ends.auto.ends ∙ c.requires.as_many ∙ sym c.fill_starts.auto.starts)

pub returns-then-done-gt0 : goal.returns-then-done-gt0
returns-then-done-gt0 c =
    let above = block_above c.args.beats.now c.requires.beats (c.args.first + c.args.done) c.fill_ends.new.ends c.fill_starts.new.starts
    c.fill_ends.ensures c.fill_starts.ensures (c.fill_ends.auto.ends ∙ c.requires.as_many ∙ sym c.fill_starts.auto.starts)
    c.in-Some.reaction c.in-Some.ensures.above_each in
    let size = c.fill_ends.auto.ends in
    greatest_stays c.args.beats.now c.args.first c.args.done (length c.args.ends.now) c.args.so_far c.if-done-gt0.true c.requires.so_far
    (λ job from below. omega (arith, above job from (omega (arith, below, size)), c.if-reaction-so_far.true))

pub returns : goal.returns
returns c =
    let above = block_above c.args.beats.now c.requires.beats (c.args.first + c.args.done) c.fill_ends.new.ends c.fill_starts.new.starts
    c.fill_ends.ensures c.fill_starts.ensures (c.fill_ends.auto.ends ∙ c.requires.as_many ∙ sym c.fill_starts.auto.starts)
    c.in-Some.reaction c.in-Some.ensures.above_each in
    let here = block_first c.args.beats.now c.requires.beats (c.args.first + c.args.done) c.fill_ends.new.ends c.fill_starts.new.starts
    c.fill_ends.ensures c.fill_starts.ensures (c.fill_ends.auto.ends ∙ c.requires.as_many ∙ sym c.fill_starts.auto.starts)
    c.in-Some.reaction c.in-Some-first_gap.place c.in-Some-first_gap.ensures.found in
    let more : 0 < c.args.done → c.args.so_far.reaction < c.in-Some.reaction = λ some. elim c.else-reaction-so_far.either [
      | inl none ↦ absurd (omega (arith, none.1))
      | inr less ↦ less
    ] in
    subst (λ size. IsGreatestOf c.args.beats.now c.args.first (c.args.done + size)
    (record { reaction = c.in-Some.reaction; job = c.args.first + c.args.done + c.in-Some-first_gap.place })) c.fill_ends.auto.ends
    (greatest_rises c.args.beats.now c.args.first c.args.done (length c.fill_ends.new.ends) c.args.so_far _ c.requires.so_far more above here)

pub overflow_add-result : goal.overflow_add-result
overflow_add-result c =
    omega (
      arith,
      c.requires.early,
      c.in-Some-first_gap.ensures.found.within,
      c.fill_ends.auto.ends,
      job_small (beat_in c.args.beats.now 0) (c.requires.beats.each 0 c.requires.beats.some).some_period
          (c.args.first + c.args.done + length c.args.ends.now),
    )
