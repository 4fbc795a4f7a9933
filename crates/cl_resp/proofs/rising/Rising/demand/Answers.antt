use Rattle.std.proofs.Common.{rules, ◌≡◌, ◌<◌, List, length, get_or, ap, ◌∙◌, arith}
use Rattle.cl_resp.specs.{declared.{question.Above.Above, rising.Rising.Rising}, Inner.Rising.taken_in}
use Rattle.cl_resp.proofs.{WhatIsKept.{IsCountedAnew, counted_anew, counted_before, takes_between, one_exceeds, one_more, all_needed}, rising.Rising.demand.Goals.{then-self-place+else-ticks-from, else-self-place}}
use Rattle.cl_resp.proofs.rising.Rising.demand.Goals as goal

pub returns-then-ticks-from-clause-demand : goal.returns-then-ticks-from-clause-demand
returns-then-ticks-from-clause-demand c =
    let known : c.loop-place.place < length c.args.question.now.above = search rules in
    let is : c.above-item.result ≡ get_or c.args.question.now.above c.loop-place.place c.above-item.result =
    c.above-item.is ∙ ap (λ (l : List Above). get_or l c.loop-place.place c.above-item.result) c.as_slice-above-items.ensures in
    one_exceeds c.args.question.now c.args.width c.loop-place.place c.above-item.result known is c.args.end
    (omega (arith, c.if-ticks-from.true, c.taken-ticks.ensures.taken, c.from.ensures))

pub loop-place-preserved : goal.loop-place-preserved
loop-place-preserved c =
    let known : c.loop-place.place < length c.args.question.now.above = search rules in
    let is : c.above-item.result ≡ get_or c.args.question.now.above c.loop-place.place c.above-item.result =
    c.above-item.is ∙ ap (λ (l : List Above). get_or l c.loop-place.place c.above-item.result) c.as_slice-above-items.ensures in
    let anew : IsCountedAnew taken_in c.args.question.now.above c.loop-place.self.ticks c.loop-place.self.until c.args.width c.loop-place.invariant.kept
    c.loop-place.place c.above-item.result c.if-self-place.self.ticks c.if-self-place.self.until =
    elim c.if-self-place.branch [
      | then-self-place+else-ticks-from w ↦
          counted_anew taken_in c.args.question.now.above c.loop-place.self.ticks c.loop-place.self.until c.args.width c.loop-place.invariant.kept
          c.loop-place.place w.taken-ticks.result w.widest.result c.above-item.result c.if-self-place.self.ticks c.if-self-place.self.until
          (search rules) (search rules) known is w.taken-ticks.ensures.taken (omega (arith, w.if-ticks-from, w.from.ensures, c.requires.end))
          (takes_between c.above-item.result c.args.width w.widest.result w.widest.ensures.as_many) (ap (λ (r : Rising). r.ticks) w.self-is) (ap (λ (r : Rising). r.until) w.self-is)
      | else-self-place w ↦
          counted_before taken_in c.args.question.now.above c.loop-place.self.ticks c.loop-place.self.until c.args.width c.loop-place.invariant.kept
          c.loop-place.place c.above-item.result c.if-self-place.self.ticks c.if-self-place.self.until known is
          (omega (arith, w.if-self-place)) (ap (λ (r : Rising). r.ticks) w.self-is) (ap (λ (r : Rising). r.until) w.self-is)
    ] in
    record {
      needed = one_more c.args.question.now c.args.width c.loop-place.place c.above-item.result known is c.loop-place.needed _ c.loop-place.invariant.needed anew.here;
      small = omega (arith, c.loop-place.invariant.small, anew.still.few c.loop-place.place);
      kept = anew.still;
    }

pub returns-clause-demand : goal.returns-clause-demand
returns-clause-demand c =
    all_needed c.args.question.now c.args.width c.loop-place.place c.loop-place.needed (search rules) c.loop-place.invariant.needed
