use Rattle.std.proofs.Common.{◌≡◌, ◌≤◌, ◌⊎◌, inl, inr, pos, negsuc, ◌+ℤ◌, ◌≤ℤ◌, ◌<ℤ◌, ℕ, ℤ, max, to_z, w64, sym, ap, ◌∙◌, subst, arith}
use Rattle.std.specs.Prelude.{unwrap_or}
use Rattle.std.proofs.lemmas.Bool.{cases_lt, leb-true}
use Rattle.std.proofs.lemmas.Int.{ints}
use Rattle.cl_resp.specs.Inner.{Phased.asked_of, Searching.{IsLeastSoFar, WindowsWithin}}
use Rattle.cl_resp.proofs.{SearchedStarts.none_is_least, SearchedReleases.{last_before, none_after}, SearchedArrivals.{passed, none_reached, none_suffices, reached_more, suffices_first, last_or_before, way_falls}, SearchedMoments.{arrives_there, begins_itself, moments_suffice}}
use Rattle.cl_resp.proofs.{SearchedMoments.{none_within, held_within, least_within, within_further}, by_phase.Search.answer_each_moment.Goals.{then-not-holds+in_ok-width, else-not-holds}}
use Rattle.cl_resp.proofs.by_phase.Search.answer_each_moment.Goals as goal

pub loop-start-init : goal.loop-start-init
loop-start-init c =
    let range = c.requires.in_range in
    record {
      by_end = omega (arith, ints, range.short, range.some);
      reached = none_reached (asked_of c.args.question.now);
      within = none_within c.args.question.now 0 _ (pos c.args.question.now.cycle) (omega (arith, ints, range.short, range.some));
    }

pub window_from-requires-clause-start : goal.window_from-requires-clause-start
window_from-requires-clause-start c =
    let start = to_z w64 c.loop-start.start-bits in
    let there : pos 0 ≤ℤ start = omega (arith, ints, c.loop-start-test.true) in
    (omega (arith, ints, there), omega (arith, ints, c.loop-start.invariant.by_end, c.requires.in_range.short))

pub returns-in_err-width : goal.returns-in_err-width
returns-in_err-width c =
    let question = c.args.question.now in
    let range = c.requires.in_range in
    let start = to_z w64 c.loop-start.start-bits in
    let there : pos 0 ≤ℤ start = omega (arith, ints, c.loop-start-test.true) in
    c.from_residual.ensures ∙ sym (none_is_least (asked_of question)
    (none_suffices (asked_of question) range.arrivals.is_phase start there c.loop-start.invariant.by_end (arrives_there question range c.requires.each start)
    start (begins_itself question range c.requires.each start) question.beside.deadline (omega (arith, ints)) c.in_err-width.ensures))

pub last_release_before-requires-clause-start : goal.last_release_before-requires-clause-start
last_release_before-requires-clause-start c =
    let start = to_z w64 c.loop-start.start-bits in
    let there : pos 0 ≤ℤ start = omega (arith, ints, c.loop-start-test.true) in
    (omega (arith, ints, there), omega (arith, ints, c.loop-start.invariant.by_end, c.requires.in_range.short))

pub loop-start-smaller : goal.loop-start-smaller
loop-start-smaller c =
    let start = to_z w64 c.loop-start.start-bits in
    let below : negsuc 0 <ℤ start = omega (arith, ints, c.loop-start-test.true) in
    let earlier = last_or_before c.last_release_before.result (negsuc 0) start (last_before c.args.question.now _ c.last_release_before.result c.last_release_before.ensures) below in
    let less : passed c.unwrap_or-start.result <ℤ start = omega (arith, ints, c.unwrap_or-start.type_inv, c.unwrap_or-start.ensures, earlier) in
    way_falls (passed c.unwrap_or-start.result) start (negsuc 0) less below

pub loop-start-preserved : goal.loop-start-preserved
loop-start-preserved c =
    let question = c.args.question.now in
    let asked = asked_of question in
    let range = c.requires.in_range in
    let was = c.loop-start.invariant in
    let start = to_z w64 c.loop-start.start-bits in
    let last = c.last_release_before.result in
    let longest = c.loop-start.longest in
    let there : pos 0 ≤ℤ start = omega (arith, ints, c.loop-start-test.true) in
    let below : negsuc 0 <ℤ start = omega (arith, ints, c.loop-start-test.true) in
    let earlier = last_or_before last (negsuc 0) start (last_before c.args.question.now _ c.last_release_before.result c.last_release_before.ensures) below in
    let next : passed c.unwrap_or-start.result ≡ unwrap_or last (negsuc 0) = omega (arith, ints, c.unwrap_or-start.type_inv, c.unwrap_or-start.ensures) in
    let none = none_after c.args.question.now _ c.last_release_before.result c.last_release_before.ensures in
    record {
      by_end = omega (arith, ints, next, earlier, was.by_end);
      reached = elim c.if-not-holds.branch [
        | then-not-holds+in_ok-width w ↦
            let width = w.in_ok-width.width in
            let longer = w.max-longest.result in
            subst (IsLeastSoFar asked) (sym w.longest-is)
            (reached_more asked range.arrivals.is_phase start there was.by_end (arrives_there question range c.requires.each start)
            start (begins_itself question range c.requires.each start) longest longer width was.reached w.in_ok-width.ensures.0
            (omega (arith, ints, w.in_ok-width.ensures.1)) (either longest width longer start w.max-longest.ensures))
        | else-not-holds w ↦ subst (IsLeastSoFar asked) (sym w.longest-is) was.reached
      ];
      within = elim c.if-not-holds.branch [
        | then-not-holds+in_ok-width w ↦
            let width = w.in_ok-width.width in
            let longer = w.max-longest.result in
            let more : longest ≤ longer = omega (arith, w.max-longest.ensures) in
            let enough : width ≤ longer = omega (arith, w.max-longest.ensures) in
            subst (λ n. WindowsWithin asked n (passed c.unwrap_or-start.result) (pos question.cycle)) (sym w.longest-is)
            (within_further question longest longer start (pos question.cycle) (passed c.unwrap_or-start.result) (negsuc 0) last
            was.within more (least_within question longer width start w.in_ok-width.ensures.0 enough) next none)
        | else-not-holds w ↦
            subst (λ n. WindowsWithin asked n (passed c.unwrap_or-start.result) (pos question.cycle)) (sym w.longest-is)
            (within_further question longest longest start (pos question.cycle) (passed c.unwrap_or-start.result) (negsuc 0) last
            was.within (omega arith) (held_within question longest start range.beside.some_time (leb-true _ _ (sym c.holds.ensures ∙ w.if-not-holds.false))) next none)
      ];
    }
  where
    either : (longest width longer : ℕ) (start : ℤ) → longer ≡ max longest width → (longer ≡ longest) ⊎ ((start +ℤ pos width) ≡ (start +ℤ pos longer))
    either longest width longer start is = elim (cases_lt longest width) [
      | inl more ↦ inr (ap (λ n. start +ℤ pos n) (omega (arith, is, more)))
      | inr less ↦ inl (omega (arith, is, less))
    ]

pub returns-else-not-is_done : goal.returns-else-not-is_done
returns-else-not-is_done c =
    let range = c.requires.in_range in
    sym (suffices_first (asked_of c.args.question.now) range.arrivals.is_phase range.comes_round range.some c.loop-start.longest
    c.loop-start.invariant.reached (c.is_done.ensures c.if-not-is_done.false))

pub returns-after-loop-start : goal.returns-after-loop-start
returns-after-loop-start c =
    let range = c.requires.in_range in
    let start = to_z w64 c.loop-start.start-bits in
    let past : start <ℤ pos 0 = omega (arith, ints, c.loop-start-test.false) in
    sym (suffices_first (asked_of c.args.question.now) range.arrivals.is_phase range.comes_round range.some c.loop-start.longest c.loop-start.invariant.reached
    (moments_suffice c.args.question.now range c.requires.each c.requires.jitter c.loop-start.longest start past c.loop-start.invariant.within))
