use Rattle.std.proofs.Common.{◌≡◌, ℕ, ℤ, ◌+ℤ◌, length, map, to_z, of_z, w64, ap, ◌∙◌, arith}
use Rattle.std.specs.List.{range_with_len}
use Rattle.std.proofs.lemmas.Int.{ints}
use Rattle.cl_phase.specs.Whole.{is_kept, missed_at, counted_at}
use Rattle.cl_phase.proofs.{WalkRanges.pace_here, WholeWalks.one_more}
use Rattle.cl_phase.proofs.whole.WholeWalk.from.Goals as goal

-- a number as code holds it
abbrev passed : ℤ → ℤ
passed z = to_z w64 (of_z w64 z)

pub loop-group-preserved : goal.loop-group-preserved
loop-group-preserved c =
    let stops = c.args.stops.now in
    let place = c.args.place in
    let i = c.loop-group.group in
    let start = c.args.start in
    let ticks = c.args.ticks in
    let within = c.loop-group-test.true in
    let given : passed start ≡ start = omega (arith, ints, c.requires.start) in
    let moved : passed ticks ≡ ticks = omega (arith, ints, c.requires.ticks) in
    let misses = c.missed_at in
    let counts = c.counted_at in
    let missed : passed misses.result ≡ misses.result = omega (arith, ints, misses.ensures.near) in
    let counted : passed counts.result ≡ counts.result = omega (arith, ints, counts.ensures.near) in
    let missed_is = ap (λ a. missed_at stops place a i) given in
    let counted_is = ap (λ a. counted_at c.args.kind stops place a i) given in
    record {
      kept = one_more _ i c.in_ok-push.ensures.ok c.loop-group.invariant.kept
          (c.is_kept.ensures ∙ ap is_kept (pace_here stops c.requires.stops i within));
      missed = one_more _ i c.in_ok-push-2.ensures.ok c.loop-group.invariant.missed
          (omega (arith, ints, moved, missed, misses.ensures.near, misses.ensures.misses, missed_is, c.requires.ticks));
      taken = one_more _ i c.in_ok-push-3.ensures.ok c.loop-group.invariant.taken
          (omega (arith, ints, moved, counted, counts.ensures.near, counts.ensures.counts, counted_is, c.requires.ticks));
    }

pub returns-clause-taken : goal.returns-clause-taken
returns-clause-taken c =
    let stops = c.args.stops.now in
    let start = c.args.start in
    let ticks = c.args.ticks in
    let f : ℤ → ℤ → ℕ → ℤ = λ s t group. counted_at c.args.kind stops c.args.place s group +ℤ t in
    let all : c.loop-group.group ≡ length stops = omega (arith, c.loop-group-test.false, c.loop-group.auto.group-end) in
    let given : passed start ≡ start = omega (arith, ints, c.requires.start) in
    let moved : passed ticks ≡ ticks = omega (arith, ints, c.requires.ticks) in
    c.loop-group.invariant.taken ∙ ap (λ n. map (f (passed start) (passed ticks)) (range_with_len 0 n)) all
    ∙ ap (λ s. map (f s (passed ticks)) (range_with_len 0 (length stops))) given ∙ ap (λ t. map (f start t) (range_with_len 0 (length stops))) moved
