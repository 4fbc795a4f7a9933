use Rattle.std.proofs.Common.{rules, ◌≡◌, ℤ, ◌+◌, ◌<◌, length, get_or, w64, to_z, of_z, ap, ◌∙◌, take_all, arith}
use Rattle.std.specs.Prelude.{sum_by}
use Rattle.std.proofs.lemmas.Int.{ints}
use Rattle.cl_resp.specs.{declared.counted.Counted.Counted, Inner.{Phased.time_in_phase, Rising.taken_from}}
use Rattle.cl_resp.proofs.{CountedWindows.{no_task, same_item}, WhatIsKept.{IsCountedAnew, counted_anew, counted_before, one_within, so_far}, counted.Counted.demand.Goals.{then-self-place+else-ticks-from, else-self-place}}
use Rattle.cl_resp.proofs.counted.Counted.demand.Goals as goal

pub returns-then-ticks-from-clause-demand : goal.returns-then-ticks-from-clause-demand
returns-then-ticks-from-clause-demand c =
    let others = c.args.question.now.in_phase in
    let same : to_z w64 (of_z w64 c.args.start) ≡ c.args.start = omega (arith, ints) in
    let known : c.loop-place.place < length others = search rules in
    let item = get_or c.as_slice-above-items.result.now c.loop-place.place no_task in
    let is = same_item c.as_slice-above-items.result.now others c.loop-place.place c.as_slice-above-items.ensures known in
    omega (
      arith,
      c.if-ticks-from.true,
      c.from.ensures,
      c.time_in_phase-ticks.ensures.taken,
      ap (λ start. time_in_phase start c.args.width item) same,
      one_within (time_in_phase c.args.start c.args.width) others c.loop-place.place item known is,
    )

pub loop-place-preserved : goal.loop-place-preserved
loop-place-preserved c =
    let start : ℤ = to_z w64 (of_z w64 c.args.start) in
    let others = c.args.question.now.in_phase in
    let known : c.loop-place.place < length others = search rules in
    let item = get_or c.as_slice-above-items.result.now c.loop-place.place no_task in
    let is = same_item c.as_slice-above-items.result.now others c.loop-place.place c.as_slice-above-items.ensures known in
    let anew : IsCountedAnew (taken_from start) others c.loop-place.self.ticks c.loop-place.self.until c.args.width c.loop-place.invariant.kept
    c.loop-place.place item c.if-self-place.self.ticks c.if-self-place.self.until =
    elim c.if-self-place.branch [
      | then-self-place+else-ticks-from w ↦
          counted_anew (taken_from start) others c.loop-place.self.ticks c.loop-place.self.until c.args.width c.loop-place.invariant.kept
          c.loop-place.place w.time_in_phase-ticks.result w.widest.result item c.if-self-place.self.ticks c.if-self-place.self.until
          (search rules) (search rules) known is w.time_in_phase-ticks.ensures.taken (omega (arith, w.if-ticks-from, w.from.ensures, c.requires.end))
          w.widest.ensures.as_long (ap (λ (r : Counted). r.ticks) w.self-is) (ap (λ (r : Counted). r.until) w.self-is)
      | else-self-place w ↦
          counted_before (taken_from start) others c.loop-place.self.ticks c.loop-place.self.until c.args.width c.loop-place.invariant.kept
          c.loop-place.place item c.if-self-place.self.ticks c.if-self-place.self.until known is
          (omega (arith, w.if-self-place)) (ap (λ (r : Counted). r.ticks) w.self-is) (ap (λ (r : Counted). r.until) w.self-is)
    ] in
    record {
      needed = ap (λ n. n + get_or c.if-self-place.self.ticks c.loop-place.place 0) c.loop-place.invariant.needed
          ∙ so_far (time_in_phase start c.args.width) others c.loop-place.place item known is _ anew.here;
      small = omega (arith, c.loop-place.invariant.small, anew.still.few c.loop-place.place);
      kept = anew.still;
    }

pub returns-clause-demand : goal.returns-clause-demand
returns-clause-demand c =
    let same : to_z w64 (of_z w64 c.args.start) ≡ c.args.start = omega (arith, ints) in
    c.loop-place.invariant.needed
    ∙ ap (sum_by (time_in_phase (to_z w64 (of_z w64 c.args.start)) c.args.width)) (take_all c.loop-place.place c.args.question.now.in_phase (search rules))
    ∙ ap (λ start. sum_by (time_in_phase start c.args.width) c.args.question.now.in_phase) same
