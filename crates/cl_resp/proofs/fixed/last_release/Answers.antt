use Rattle.std.proofs.Common.{◌≡◌, pos, ◌+ℤ◌, ◌-ℤ◌, ◌≤ℤ◌, w64, to_z, of_z, ap, ◌∙◌, subst, arith}
use Rattle.std.proofs.lemmas.Int.{ints}
use Rattle.cl_model.specs.declared.limits.TheConstants.{MOST_TICKS}
use Rattle.cl_stim.specs.Phase.{last_arrival}
use Rattle.cl_resp.proofs.PhasedReleases.{last_release_is}
use Rattle.cl_resp.proofs.fixed.last_release.Goals as goal

pub returns : goal.returns
returns c =
    let above = c.args.above.now in
    let start = c.args.start in
    let asked = to_z w64 (of_z w64 (to_z w64 (of_z w64 (to_z w64 (of_z w64 start) -ℤ pos 1)) -ℤ to_z w64 above.jitter)) in
    let same : asked ≡ ((start -ℤ pos 1) -ℤ pos above.jitter) = omega (arith, ints, c.requires.jitter, c.requires.start) in
    let found = to_z w64 (of_z w64 (to_z w64 (of_z w64 c.last_arrival.result) +ℤ to_z w64 above.jitter)) in
    let is : found ≡ (c.last_arrival.result +ℤ pos above.jitter) = omega (arith, ints, same, c.requires.jitter, c.requires.start, c.last_arrival.ensures.not_after, c.last_arrival.ensures.near) in
    last_release_is above c.requires.phase.is_phase start c.last_arrival.result found
    (c.last_arrival.ensures.last ∙ ap (last_arrival above.phase) same) is
    (subst (λ a. (a -ℤ pos MOST_TICKS) ≤ℤ c.last_arrival.result) same c.last_arrival.ensures.near)
