use Rattle.std.proofs.Common.{◌≡◌, pos, ◌-ℤ◌, ◌≤ℤ◌, ◌<ℤ◌, to_z, of_z, w64, ap, ◌∙◌, arith}
use Rattle.std.proofs.lemmas.Int.{ints}
use Rattle.cl_resp.proofs.{WorstPlaces.{held, near_held}, WorstCandidates.released_is}
use Rattle.cl_resp.proofs.worst.is_released_by.Goals as goal

pub returns : goal.returns
returns c =
    let above = c.args.above.now in
    let moment = held (held c.args.start -ℤ held (pos above.jitter)) in
    let there : moment ≡ (c.args.start -ℤ pos above.jitter) = omega (arith, ints, c.requires.jitter, c.requires.start) in
    let small : pos c.args.cycle ≡ held (pos c.args.cycle) = omega (arith, ints, c.requires.cycle) in
    let raw : moment ≡ (held c.args.start -ℤ held (pos above.jitter)) = omega (arith, ints, c.requires.jitter, c.requires.start) in
    let near : pos 0 ≤ℤ moment = omega (arith, ints, c.if-arrival-lt0.false) in
    let within : moment <ℤ pos c.args.cycle = omega (arith, ints, small, c.if-arrival-cycle.false) in
    let kept : c.last_arrival.result ≡ held c.last_arrival.result = near_held moment c.last_arrival.result c.args.cycle c.last_arrival.ensures.not_after c.last_arrival.ensures.near near within c.requires.cycle in
    released_is above.phase c.requires.phase.is_phase c.args.cycle c.args.start above.jitter moment c.last_arrival.result there near within
    c.last_arrival.ensures.last _ _
    (λ same. kept ∙ ap (to_z w64) same)
    (λ same. ap (of_z w64) (same ∙ raw))
