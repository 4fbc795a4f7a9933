use Rattle.std.proofs.Common.{◌≡◌, ℕ, ◌+◌, ◌-◌, ℤ, List, [], ◌∷◌, ◌++◌, map, ap, sym, ◌∙◌, arith, to_z, of_z, w64}
use Rattle.std.specs.List.{range_with_len}
use Rattle.std.proofs.lemmas.Int.{ints}
use Rattle.std.proofs.lemmas.List.FromFn.{map-range_with_len_more}
use Rattle.cl_phase.specs.{Pace.previous, Walks.{pace_at, back}, Walked.missed}
use Rattle.cl_phase.proofs.walked.missed.Goals as goal

-- a number as code holds it
abbrev passed : ℤ → ℤ
passed z = to_z w64 (of_z w64 z)

pub loop-group-preserved : goal.loop-group-preserved
loop-group-preserved c =
    let stops = c.args.stops.now in
    let place = c.args.place in
    let i = c.loop-group.group in
    let f : ℕ → ℤ = λ group. back stops place (previous (pace_at stops place) (passed c.args.start)) (place - group) in
    let last : 0 + i ≡ i = omega arith in
    let pushed : passed c.arrival_back.result ≡ c.arrival_back.result = omega (arith, ints, c.arrival_back.ensures.near) in
    c.in_ok-push.ensures.ok ∙ ap (λ (list : List ℤ). list ++ passed c.arrival_back.result ∷ []) c.loop-group.invariant
    ∙ ap (λ (x : ℤ). map f (range_with_len 0 i) ++ x ∷ []) (pushed ∙ c.arrival_back.ensures.leads)
    ∙ sym (map-range_with_len_more f 0 i i last)

pub returns : goal.returns
unfolding missed
returns c =
    let stops = c.args.stops.now in
    let place = c.args.place in
    let f : ℕ → ℤ = λ group. back stops place (previous (pace_at stops place) (passed c.args.start)) (place - group) in
    let all : c.loop-group.group ≡ place + 1 = omega (arith, c.loop-group-test.false, c.loop-group.auto.group-end, c.requires.place) in
    let same : passed c.args.start ≡ c.args.start = omega (arith, ints, c.requires.start) in
    c.loop-group.invariant ∙ ap (λ n. map f (range_with_len 0 n)) all ∙ ap (missed stops place) same
