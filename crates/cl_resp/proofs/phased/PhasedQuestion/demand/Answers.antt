use Rattle.std.proofs.Common.{◌≡◌, ◌+◌, length, take, w64, to_z, of_z, ap, ◌∙◌, take_all, arith}
use Rattle.std.specs.Prelude.{sum_by}
use Rattle.std.proofs.lemmas.Int.{ints}
use Rattle.cl_resp.specs.{declared.phased.InPhase.InPhase, Response.demand, Inner.Phased.time_in_phase}
use Rattle.cl_resp.proofs.phased.PhasedQuestion.demand.Goals as goal

pub returns : goal.returns
returns c =
    let question = c.args.self.now in
    let width = c.args.width in
    let start = to_z w64 (of_z w64 c.args.start) in
    let all : take c.loop-above.above-index question.in_phase ≡ question.in_phase = take_all c.loop-above.above-index question.in_phase
    (omega (arith, c.loop-above-test.false, ap (length {A = InPhase}) c.as_slice-above-items.ensures)) in
    let same : start ≡ c.args.start = omega (arith, ints) in
    c.loop-above.invariant.needed
    ∙ ap (λ list. demand question.beside width + sum_by (time_in_phase start width) list) all
    ∙ ap (λ from. demand question.beside width + sum_by (time_in_phase from width) question.in_phase) same
