use Rattle.std.proofs.Common.{◌≡◌, ℤ, to_z, of_z, w64, ap, sym, ◌∙◌, arith}
use Rattle.std.proofs.lemmas.Int.{ints}
use Rattle.cl_runs.specs.SystemOf.{system_of}
use Rattle.cl_phase.specs.{TightBounds.hyperperiod_in, Inner.Longest.span_between}
use Rattle.cl_phase.proofs.ShownWalks.{walk_is}
use Rattle.cl_phase.proofs.walked.walk_lasting.Goals as goal

-- a number as code holds it
abbrev passed : ℤ → ℤ
passed z = to_z w64 (of_z w64 z)

pub returns : goal.returns
returns c = λ timing are.
    let course = c.course_of-course.ensures.course in
    let stops = c.as_slice-stops.result.now in
    let value = c.as_slice-stops.ensures.value in
    let system = system_of c.args.model.now in
    let start : passed c.start_of-start.result ≡ c.start_of-start.result = omega (arith, ints, c.start_of-start.ensures.near) in
    walk_is system timing c.args.groups.now c.args.reaction stops (span_between c.course_of-course.result.ends) c.course_of-course.result.ends.write c.slowest-place.result
    c.course_of-course.result.keeping.hyperperiod (passed c.start_of-start.result) c.in_ok-missed.field-0 c.in_ok-taken.field-0
    (value ∙ course.stops_are timing are) (course.span_is timing are) (course.write_is timing are) c.slowest-place.ensures.slowest (course.kept.hyperperiod ∙ ap hyperperiod_in (sym value))
    (start ∙ c.start_of-start.ensures.start) c.in_ok-missed.ensures c.in_ok-taken.ensures
