use Rattle.std.proofs.Common.{◌≡◌, pos, ◌-ℤ◌, ◌<ℤ◌, arith}
use Rattle.std.specs.Prelude.{unwrap_or}
use Rattle.std.proofs.lemmas.Int.{ints, clamps}
use Rattle.cl_resp.proofs.{WorstCandidates.none_between, WorstPlaces.held}
use Rattle.cl_resp.proofs.worst.candidate_before.Goals as goal

pub returns-clause-none : goal.returns-clause-none
returns-clause-none c moment after before =
    let other = held (held c.min.result -ℤ pos 1) in
    let later : unwrap_or c.last_release_before.result other <ℤ moment = omega (arith, ints, after, c.unwrap_or.type_inv, c.unwrap_or.ensures) in
    let same : held c.args.start ≡ c.args.start = omega (arith, ints) in
    let earlier : moment <ℤ held c.args.start = omega (arith, ints, same, before) in
    none_between c.args.question.now c.last_release_before.result (held c.args.start) other moment c.last_release_before.ensures
    (λ zero past. omega (arith, ints, clamps, zero, past, before, c.min.ensures.value, c.min.type_inv, c.requires.not_before, c.requires.start))
    later earlier
