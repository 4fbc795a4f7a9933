use Rattle.std.proofs.Common.{◌≡◌, ℕ, ◌+◌, ◌*◌, ◌<◌, ◌≤◌, min, pos, ◌+ℤ◌, ◌≤ℤ◌, ap, sym, ◌∙◌, subst, arith, to_z, of_z, w64, ℤ, refl}
use Rattle.std.specs.Prelude.{unsigned_abs}
use Rattle.std.proofs.lemmas.Int.{ints}
use Rattle.cl_model.specs.declared.limits.TheConstants.{MOST_TICKS}
use Rattle.cl_stim.specs.Phase.{first_arrival}
use Rattle.cl_phase.specs.{TightBounds.starts, Inner.{Longest.longest_walk, Ranges.LONGEST_HYPERPERIOD}}
use Rattle.cl_phase.proofs.{LongestWalks.phase_in_range, StridesCover.{IsScannedTo, scan_begins, scan_goes_on, scan_ends}}
use Rattle.cl_phase.proofs.scanning.longest_of_phase.Goals as goal

-- an arrival that isn't before a natural number of ticks, as code holds it
held : (moment : ℕ) (first : ℤ) → moment ≤ 2 * LONGEST_HYPERPERIOD → pos moment ≤ℤ first → first ≤ℤ (pos moment +ℤ pos MOST_TICKS)
    → pos (unsigned_abs (to_z w64 (of_z w64 first))) ≡ first
held moment first few after near = omega (arith, ints, few, after, near)

pub loop-arrival-init : goal.loop-arrival-init
loop-arrival-init c =
    let phase = phase_in_range c.args.stops.now c.requires.stops c.args.place c.requires.place c.args.phase.now c.requires.phase in
    let first = c.first_arrival-arrival in
    let is = held 0 first.result (omega arith) first.ensures.not_before first.ensures.near in
    scan_begins c.args.stops.now c.args.ends c.args.place c.args.phase.now phase.is_phase c.args.ticks c.stride_of-stride.result
    c.stride_of-stride.ensures.round c.stride_of-stride.ensures.some c.none-longest.result c.min-end.result _
    (c.none-longest.ensures c.args.stops.now c.args.ends c.args.place) (is ∙ first.ensures.first) (omega (arith, ints, is, first.ensures.near))

pub loop-arrival-preserved : goal.loop-arrival-preserved
loop-arrival-preserved c =
    let phase = phase_in_range c.args.stops.now c.requires.stops c.args.place c.requires.place c.args.phase.now c.requires.phase in
    let here = c.loop-arrival.arrival in
    let next = c.first_arrival-arrival-in-loop-arrival in
    let end : here < min c.stride_of-stride.result c.args.ticks = omega (arith, c.loop-arrival-test.true, c.min-end.ensures) in
    let few : here + 1 ≤ 2 * LONGEST_HYPERPERIOD = omega (arith, end, c.requires.few) in
    let after : (to_z w64 here +ℤ pos 1) ≡ pos (here + 1) = omega (arith, ints, few) in
    let from : to_z w64 (of_z w64 (to_z w64 here +ℤ pos 1)) ≡ pos (here + 1) = omega (arith, ints, few, after) in
    let late = subst (λ z. z ≤ℤ next.result) from next.ensures.not_before in
    let near = subst (λ z. next.result ≤ℤ (z +ℤ pos MOST_TICKS)) from next.ensures.near in
    let is = held (here + 1) next.result few late near in
    subst (λ l. IsScannedTo c.args.stops.now c.args.ends c.args.place c.args.phase.now c.args.ticks c.stride_of-stride.result c.min-end.result l
    (unsigned_abs (to_z w64 (of_z w64 next.result)))) (sym c.or-longest.ensures)
    (scan_goes_on c.args.stops.now c.args.ends c.args.place c.args.phase.now phase.is_phase c.args.ticks c.stride_of-stride.result
    c.stride_of-stride.ensures.round c.stride_of-stride.ensures.some here _ end refl c.loop-arrival.longest c.longest_in_strides.result c.min-end.result _
    c.loop-arrival.invariant c.longest_in_strides.ensures (is ∙ next.ensures.first ∙ ap (first_arrival c.args.phase.now) from)
    (omega (arith, ints, is, near, c.loop-arrival-test.true)))

pub returns : goal.returns
returns c =
    let phase = phase_in_range c.args.stops.now c.requires.stops c.args.place c.requires.place c.args.phase.now c.requires.phase in
    let past : min c.stride_of-stride.result c.args.ticks ≤ c.loop-arrival.arrival = omega (arith, c.loop-arrival-test.false, c.min-end.ensures) in
    scan_ends c.args.stops.now c.args.ends c.args.place c.args.phase.now phase.is_phase c.args.ticks c.stride_of-stride.result
    c.stride_of-stride.ensures.round c.stride_of-stride.ensures.some c.loop-arrival.longest c.min-end.result c.loop-arrival.arrival c.loop-arrival.invariant past
    ∙ ap (λ pace. longest_walk c.args.stops.now c.args.ends c.args.place (starts pace c.args.ticks)) (sym c.requires.phase)
