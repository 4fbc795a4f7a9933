use Rattle.std.proofs.Common.{◌-◌}
use Rattle.std.specs.Prelude.{unsigned_abs}
use Rattle.cl_phase.specs.Inner.Longest.{span_between}
use Rattle.cl_phase.proofs.ShownStarts.{IsSearchedTo}
use Rattle.cl_phase.proofs.walked.start_of_phase.Given as goal

abbrev pub invariant-loop-arrival : goal.invariant-loop-arrival
invariant-loop-arrival l = IsSearchedTo l.kind l.stops (span_between l.ends) l.ends.write l.place l.phase l.ticks l.bound l.arrival

abbrev pub decreases-loop-arrival : goal.decreases-loop-arrival
decreases-loop-arrival l = l.ticks - unsigned_abs l.arrival
