use Rattle.std.proofs.Common.{ap, sym, ◌∙◌}
use Rattle.cl_runs.specs.SystemOf.{system_of}
use Rattle.cl_phase.specs.TightBounds.{hyperperiod_in}
use Rattle.cl_phase.proofs.BoundsByWalks.{bounds_by_walks}
use Rattle.cl_phase.proofs.bounding.tight_bounds.Goals as goal

pub returns-clause-bounds : goal.returns-clause-bounds
returns-clause-bounds c = λ timing are.
    let course = c.course_of-course.ensures.course in
    let stops = c.as_slice-stops.result.now in
    let value = c.as_slice-stops.ensures.value in
    c.new.ensures
    ∙ bounds_by_walks (system_of c.args.model.now) timing c.args.groups.now stops c.course_of-course.result.ends c.slowest-place.result
    c.course_of-course.result.keeping.hyperperiod c.longest-longest.result
    (value ∙ course.stops_are timing are) c.slowest-place.ensures.slowest (course.kept.hyperperiod ∙ ap hyperperiod_in (sym value))
    c.longest-longest.ensures (course.span_is timing are) (course.write_is timing are)
