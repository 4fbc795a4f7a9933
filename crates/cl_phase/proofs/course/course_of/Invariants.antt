use Rattle.cl_runs.specs.SystemOf.{system_of}
use Rattle.cl_phase.proofs.CourseFacts.{IsCourseTo}
use Rattle.cl_phase.proofs.course.course_of.Given as goal

abbrev pub invariant-loop-i : goal.invariant-loop-i
invariant-loop-i l = IsCourseTo (system_of l.model) l.groups l.timings l.i l.stops.items l.keeping
