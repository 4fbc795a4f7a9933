use Rattle.std.proofs.Common.{◌≡◌, pos, ◌-ℤ◌, to_z, of_z, w64, unsigned_abs, ap, ◌∙◌, arith}
use Rattle.std.proofs.lemmas.Int.{ints}
use Rattle.cl_stim.specs.Phase.{last_arrival}
use Rattle.cl_lead.proofs.SureArrivals.{none_after_last}
use Rattle.cl_lead.proofs.sure.last_before.Goals as goal

pub returns-clause-none : goal.returns-clause-none
returns-clause-none c =
    let asked : to_z w64 (of_z w64 (to_z w64 c.args.until -ℤ pos 1)) ≡ (pos c.args.until -ℤ pos 1) = omega (arith, ints, c.requires.until) in
    let last : to_z w64 (of_z w64 c.last_arrival.result) ≡ c.last_arrival.result = omega (arith, ints, c.last_arrival.type_inv) in
    let found : to_z w64 (of_z w64 c.max.result) ≡ c.max.result = omega (arith, ints, c.max.type_inv) in
    none_after_last c.args.phase.now c.requires.phase.is_phase c.args.until c.last_arrival.result
    (c.last_arrival.ensures.last ∙ ap (last_arrival c.args.phase.now) asked) (unsigned_abs (to_z w64 (of_z w64 c.max.result)))
    (omega (arith, ints, last, found, c.max.ensures.self_bound, c.max.ensures.other_bound))
