use Rattle.std.proofs.Common.{◌≡◌, ◌+◌, ℤ, pos, ◌-ℤ◌, ◌≤ℤ◌, ◌<ℤ◌, to_z, w64, sym, subst, arith}
use Rattle.std.specs.Prelude.{Option}
use Rattle.std.proofs.lemmas.Int.{ints}
use Rattle.cl_resp.specs.Inner.Worst.{IsCandidateOf}
use Rattle.cl_resp.proofs.{WorstPlaces.{held, way_falls}, WorstCandidates.{in_bounds_of, candidate_in_bounds, IsFoundAfter, none_after, found_here, not_here, found_past}, worst.least_unanswered.Goals.{then-is_unanswered, else-is_unanswered}}
use Rattle.cl_resp.proofs.worst.least_unanswered.Goals as goal

pub loop-start-init : goal.loop-start-init
loop-start-init c =
    let question = c.args.question.now in
    let range = c.requires.in_range in
    let first = c.candidate_before-start in
    let most = c.longest_jitter.result in
    let top = held (held (pos (question.cycle + most))) in
    let same : top ≡ pos (question.cycle + most) = omega (arith, ints, range.short, c.longest_jitter.ensures.short) in
    let start = held first.result in
    let here : start ≡ first.result = omega (arith, ints, first.type_inv) in
    record {
      near = omega (arith, ints, here, same, range.short, first.ensures.before, c.longest_jitter.ensures.short);
      found = none_after question c.args.within start (λ moment after candidate.
          let bounds = candidate_in_bounds question most c.longest_jitter.ensures.all range.some moment candidate in
          first.ensures.none moment (omega (arith, ints, here, after)) (omega (arith, ints, same, range.short, bounds.1)) candidate);
    }

pub loop-start-smaller : goal.loop-start-smaller
loop-start-smaller c =
    let start = to_z w64 c.loop-start.start-bits in
    let next = c.candidate_before-start-in-loop-start in
    let less : held next.result <ℤ start = omega (arith, ints, next.type_inv, next.ensures.before) in
    let some : (pos 0 -ℤ pos 1) <ℤ start = omega (arith, ints, c.loop-start-test.true) in
    way_falls (held next.result) start (pos 0 -ℤ pos 1) less some

pub loop-start-preserved : goal.loop-start-preserved
loop-start-preserved c =
    let question = c.args.question.now in
    let was = c.loop-start.invariant in
    let start = to_z w64 c.loop-start.start-bits in
    let next = c.candidate_before-start-in-loop-start in
    let here : held next.result ≡ next.result = omega (arith, ints, next.type_inv) in
    let less : held next.result <ℤ start = omega (arith, ints, here, next.ensures.before) in
    let none : (moment : ℤ) → held next.result <ℤ moment → moment <ℤ start → IsCandidateOf question moment → ⊥ =
    subst (λ n. (moment : ℤ) → n <ℤ moment → moment <ℤ start → IsCandidateOf question moment → ⊥) (sym here) next.ensures.none in
    record {
      near = omega (arith, ints, less, was.near);
      found = elim c.if-is_unanswered.branch [
        | then-is_unanswered w ↦
            let yes = c.is_unanswered.ensures.yes w.if-is_unanswered.true in
            subst (λ (f : Option ℤ). IsFoundAfter question c.args.within f (held next.result)) (sym w.found-is)
            (found_here question c.args.within start (held next.result) less none c.loop-start.found was.found yes.0 yes.1)
        | else-is_unanswered w ↦
            subst (λ (f : Option ℤ). IsFoundAfter question c.args.within f (held next.result)) (sym w.found-is)
            (not_here question c.args.within start (held next.result) less none c.loop-start.found was.found (c.is_unanswered.ensures.no w.if-is_unanswered.false))
      ];
    }

pub returns : goal.returns
returns c =
    let question = c.args.question.now in
    let start = to_z w64 c.loop-start.start-bits in
    let below : start ≤ℤ (pos 0 -ℤ pos 1) = omega (arith, ints, c.loop-start-test.false) in
    found_past question c.args.within c.loop-start.found start (pos 0 -ℤ pos 1) below
    (λ moment candidate. follows moment (in_bounds_of question c.requires.in_range moment candidate).0) c.loop-start.invariant.found
  where
    follows : (moment : ℤ) → pos 0 ≤ℤ moment → (pos 0 -ℤ pos 1) <ℤ moment
    follows moment after = omega (arith, ints, after)
