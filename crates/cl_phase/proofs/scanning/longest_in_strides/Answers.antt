use Rattle.std.proofs.Common.{◌≡◌, ℕ, ◌+◌, ◌-◌, ◌*◌, ◌<◌, ◌≤◌, inl, inr, length, max, pos, ap, sym, ◌∙◌, subst, arith, to_z, w64, mul-le-mul_right}
use Rattle.std.proofs.lemmas.Int.{ints}
use Rattle.cl_phase.specs.{Walks.{pace_at, last_place}, Inner.{Ranges.LONGEST_HYPERPERIOD, Longest.{longer_of, lengths_at}, Scanned.{AreNoLonger, AreLongestFrom, IsInStrides}}}
use Rattle.cl_phase.proofs.{LongestStrides.{even_within, one_within, strides_begin, strides_leap}, PaceSteps.paces_step, WalkRanges.goes_on}
use Rattle.cl_phase.proofs.scanning.longest_in_strides.Goals as goal

-- a leap within the strides comes no further than they do
leap_near : (first stride strides done leap : ℕ) → first + strides * stride ≤ LONGEST_HYPERPERIOD → done < strides → leap ≤ max 1 (strides - done)
    → (done + leap ≤ strides) × (first + done * stride + leap * stride ≤ LONGEST_HYPERPERIOD)
leap_near first stride strides done leap near more few =
    let within : done + leap ≤ strides = omega (arith, more, few) in
    let product : (done + leap) * stride ≡ done * stride + leap * stride = omega arith in
    (within, omega (arith, near, product, mul-le-mul_right stride within))

pub loop-done-init : goal.loop-done-init
loop-done-init c =
    let first : to_z w64 c.args.first ≡ pos c.args.first = omega (arith, ints, c.requires.near) in
    record {
      longest = subst (AreLongestFrom c.args.stops.now c.args.ends c.args.place (IsInStrides c.args.first c.args.stride 0))
          (sym (c.lengths_at-longest.ensures ∙ ap (lengths_at c.args.stops.now c.args.ends c.args.place) first))
          (strides_begin c.args.stops.now c.args.ends c.args.place c.args.first c.args.stride);
      within = omega arith;
      some = omega arith;
      few = omega arith;
    }

pub changes_evenly-even-requires-clause-near : goal.changes_evenly-even-requires-clause-near
changes_evenly-even-requires-clause-near c =
    (leap_near c.args.first c.args.stride c.args.strides c.loop-done.done c.loop-done.leap c.requires.near c.loop-done-test.true c.loop-done.invariant.few).1

pub lengths_at-requires-clause-arrival : goal.lengths_at-requires-clause-arrival
lengths_at-requires-clause-arrival c =
    let (_, near) = leap_near c.args.first c.args.stride c.args.strides c.loop-done.done c.loop-done.leap c.requires.near c.loop-done-test.true c.loop-done.invariant.few in
    let product : (c.loop-done.done + c.loop-done.leap) * c.args.stride ≡ c.loop-done.done * c.args.stride + c.loop-done.leap * c.args.stride = omega arith in
    (omega (arith, ints, near, product), omega (arith, ints, near, product))

pub loop-done-preserved-then-leap-eq1 : goal.loop-done-preserved-then-leap-eq1
loop-done-preserved-then-leap-eq1 c =
    let stops = c.args.stops.now in
    let ends = c.args.ends in
    let place = c.args.place in
    let first = c.args.first in
    let stride = c.args.stride in
    let done = c.loop-done.done in
    let leap = c.loop-done.leap in
    let (within, near) = leap_near first stride c.args.strides done leap c.requires.near c.loop-done-test.true c.loop-done.invariant.few in
    let product : (done + leap) * stride ≡ done * stride + leap * stride = omega arith in
    let end : to_z w64 (first + (done + leap) * stride) ≡ pos (first + (done + leap) * stride) = omega (arith, ints, near, product) in
    let last : last_place stops < length stops = omega (arith, c.requires.stops.some) in
    let steps_last = paces_step (pace_at stops (last_place stops)) (goes_on (pace_at stops (last_place stops)) (c.requires.stops.paces (last_place stops) last)) in
    let steps_first = paces_step (pace_at stops 0) (goes_on (pace_at stops 0) (c.requires.stops.paces 0 c.requires.stops.some)) in
    let none : first + done * stride + 0 * stride ≡ first + done * stride = omega arith in
    let Between : ℕ → Type 0 = λ n. (more : ℕ) → more ≤ n → AreNoLonger (lengths_at stops ends place (pos (first + done * stride + more * stride)))
    (longer_of (lengths_at stops ends place (pos (first + done * stride))) (lengths_at stops ends place (pos (first + done * stride + n * stride)))) in
    let between : Between leap = elim c.if-leap-eq1.either [
      | inl even ↦ λ more few. subst (λ n. AreNoLonger (lengths_at stops ends place (pos (first + done * stride + more * stride)))
          (longer_of (lengths_at stops ends place (pos n)) (lengths_at stops ends place (pos (first + done * stride + leap * stride))))) none
          (even_within stops ends place (first + done * stride) stride leap steps_last steps_first
          (c.changes_evenly-even.ensures.onward even) (c.changes_evenly-even.ensures.back even) more few)
      | inr one ↦ subst Between (sym one.1) (one_within stops ends place first stride done)
    ] in
    record {
      longest = subst (AreLongestFrom stops ends place (IsInStrides first stride (done + leap)))
          (sym (c.or-longest.ensures ∙ ap (longer_of c.loop-done.longest) (c.lengths_at.ensures ∙ ap (lengths_at stops ends place) end)))
          (strides_leap stops ends place first stride done leap c.loop-done.longest c.loop-done.invariant.longest between);
      within = within;
      some = c.next_leap-leap.ensures.some;
      few = omega (arith, c.next_leap-leap.ensures.within);
    }

pub returns : goal.returns
returns c =
    let all : c.loop-done.done ≡ c.args.strides = omega (arith, c.loop-done-test.false, c.loop-done.invariant.within) in
    subst (λ n. AreLongestFrom c.args.stops.now c.args.ends c.args.place (IsInStrides c.args.first c.args.stride n) c.loop-done.longest) all c.loop-done.invariant.longest
