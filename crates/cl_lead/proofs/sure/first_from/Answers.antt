use Rattle.std.proofs.Common.{◌≡◌, pos, to_z, of_z, w64, ap, ◌∙◌, arith}
use Rattle.std.proofs.lemmas.Int.{ints}
use Rattle.cl_stim.specs.Phase.{first_arrival}
use Rattle.cl_lead.proofs.SureArrivals.{first_passes, first_is_first}
use Rattle.cl_lead.proofs.sure.first_from.Goals as goal

pub returns-clause-arrives : goal.returns-clause-arrives
returns-clause-arrives c =
    let asked : to_z w64 (of_z w64 (pos c.args.moment)) ≡ pos c.args.moment = omega (arith, ints, c.requires.moment) in
    let same : to_z w64 (of_z w64 c.first_arrival.result) ≡ c.first_arrival.result
    = omega (arith, ints, c.first_arrival.ensures.near, c.first_arrival.ensures.not_before, c.requires.moment) in
    first_passes c.args.phase.now c.requires.phase.is_phase c.args.moment (to_z w64 (of_z w64 c.first_arrival.result))
    (same ∙ c.first_arrival.ensures.first ∙ ap (first_arrival c.args.phase.now) asked)

pub returns-clause-first : goal.returns-clause-first
returns-clause-first c =
    let asked : to_z w64 (of_z w64 (pos c.args.moment)) ≡ pos c.args.moment = omega (arith, ints, c.requires.moment) in
    let same : to_z w64 (of_z w64 c.first_arrival.result) ≡ c.first_arrival.result
    = omega (arith, ints, c.first_arrival.ensures.near, c.first_arrival.ensures.not_before, c.requires.moment) in
    first_is_first c.args.phase.now c.requires.phase.is_phase c.args.moment (to_z w64 (of_z w64 c.first_arrival.result))
    (same ∙ c.first_arrival.ensures.first ∙ ap (first_arrival c.args.phase.now) asked)
