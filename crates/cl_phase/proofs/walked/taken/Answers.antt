use Rattle.std.proofs.Common.{◌≡◌, ℕ, ◌+◌, ◌-◌, ℤ, List, [], ◌∷◌, ◌++◌, length, map, ap, sym, ◌∙◌, arith, to_z, of_z, w64}
use Rattle.std.specs.List.{range_with_len}
use Rattle.std.proofs.lemmas.Int.{ints}
use Rattle.std.proofs.lemmas.List.FromFn.{map-range_with_len_more}
use Rattle.cl_phase.specs.{Walks.onward, Walked.taken}
use Rattle.cl_phase.proofs.walked.taken.Goals as goal

-- a number as code holds it
abbrev passed : ℤ → ℤ
passed z = to_z w64 (of_z w64 z)

pub loop-hops-preserved : goal.loop-hops-preserved
loop-hops-preserved c =
    let stops = c.args.stops.now in
    let place = c.args.place in
    let i = c.loop-hops.hops in
    let f : ℕ → ℤ = onward stops place (passed c.args.start) in
    let there : place + i - place ≡ i = omega arith in
    let last : 0 + i ≡ i = omega arith in
    let pushed : passed c.arrival_onward.result ≡ c.arrival_onward.result = omega (arith, ints, c.arrival_onward.ensures.near) in
    c.in_ok-push.ensures.ok ∙ ap (λ (list : List ℤ). list ++ passed c.arrival_onward.result ∷ []) c.loop-hops.invariant
    ∙ ap (λ (x : ℤ). map f (range_with_len 0 i) ++ x ∷ []) (pushed ∙ c.arrival_onward.ensures.leads ∙ ap f there)
    ∙ sym (map-range_with_len_more f 0 i i last)

pub returns : goal.returns
unfolding taken
returns c =
    let stops = c.args.stops.now in
    let place = c.args.place in
    let f : ℕ → ℤ = onward stops place (passed c.args.start) in
    let all : c.loop-hops.hops ≡ length stops - 1 - place + 1 = omega (arith, c.loop-hops-test.false, c.loop-hops.auto.hops-end, c.requires.place) in
    let same : passed c.args.start ≡ c.args.start = omega (arith, ints, c.requires.start) in
    c.loop-hops.invariant ∙ ap (λ n. map f (range_with_len 0 n)) all ∙ ap (taken stops place) same
