use Rattle.std.proofs.Common.{◌≡◌, pos, ◌-ℤ◌, ◌+ℤ◌, to_z, of_z, w64, ap, ◌∙◌, arith}
use Rattle.std.proofs.lemmas.Int.{ints}
use Rattle.cl_stim.specs.Phase.{last_arrival}
use Rattle.cl_lead.proofs.SureArrivals.{first_counted_is}
use Rattle.cl_lead.proofs.sure.SureWork.first_counted.Goals as goal

pub returns : goal.returns
returns c =
    let work = c.args.self.now in
    let asked : to_z w64 (of_z w64 (to_z w64 c.args.arrival -ℤ pos 1)) ≡ (pos c.args.arrival -ℤ pos 1)
    = omega (arith, ints, c.requires.arrival, c.requires.in_range.short) in
    let last : to_z w64 (of_z w64 c.last_arrival.result) ≡ c.last_arrival.result = omega (arith, ints, c.last_arrival.type_inv) in
    let before = c.last_arrival.ensures.not_after in
    let next : to_z w64 (of_z w64 (to_z w64 (of_z w64 c.last_arrival.result) +ℤ pos 1)) ≡ (c.last_arrival.result +ℤ pos 1)
    = omega (arith, ints, last, asked, before, c.last_arrival.ensures.near, c.requires.arrival, c.requires.in_range.short) in
    let found : to_z w64 (of_z w64 c.max.result) ≡ c.max.result = omega (arith, ints, c.max.type_inv) in
    first_counted_is work c.args.arrival c.last_arrival.result (to_z w64 (of_z w64 (to_z w64 (of_z w64 c.last_arrival.result) +ℤ pos 1)))
    (to_z w64 (of_z w64 c.max.result))
    (c.last_arrival.ensures.last ∙ ap (last_arrival work.arrivals) asked)
    (omega (arith, ints, before, asked)) (omega (arith, ints, c.last_arrival.ensures.near, asked)) next
    (found ∙ c.max.ensures.value)
