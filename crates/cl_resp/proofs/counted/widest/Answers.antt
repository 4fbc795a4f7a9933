use Rattle.std.proofs.Common.{◌≡◌, ℕ, ℤ, pos, ◌+ℤ◌, ◌-ℤ◌, ◌≤ℤ◌, w64, to_z, of_z, nat_abs, ap, ◌∙◌, subst, arith}
use Rattle.std.proofs.lemmas.Int.{ints}
use Rattle.cl_stim.specs.Phase.{first_arrival}
use Rattle.cl_resp.proofs.CountedWindows.{as_long, by_widest}
use Rattle.cl_resp.proofs.counted.widest.Goals as goal

pub returns-clause-as_long : goal.returns-clause-as_long
returns-clause-as_long c = λ between low high.
    let above = c.args.above.now in
    let start = c.args.start in
    let first = c.first_arrival.result in
    let end : ℤ = to_z w64 (of_z w64 (to_z w64 (of_z w64 start) +ℤ to_z w64 c.args.width)) in
    let same : end ≡ (start +ℤ pos c.args.width) = omega (arith, ints, c.requires.start, c.requires.width) in
    let widest : ℕ = nat_abs (to_z w64 (of_z w64 (to_z w64 (of_z w64 first) -ℤ to_z w64 (of_z w64 start)))) in
    let at : (start +ℤ pos widest) ≡ first = omega (arith, ints, same, c.requires.start, c.requires.width, c.first_arrival.ensures.not_before, c.first_arrival.ensures.near) in
    as_long above c.requires.phase.is_phase start c.args.width between low
    (subst (λ a. (start +ℤ pos between) ≤ℤ a) (c.first_arrival.ensures.first ∙ ap (first_arrival above.phase) same)
    (by_widest start first widest between at high))
