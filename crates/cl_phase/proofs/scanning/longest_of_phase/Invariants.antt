use Rattle.std.proofs.Common.{◌-◌}
use Rattle.cl_phase.proofs.StridesCover.{IsScannedTo}
use Rattle.cl_phase.proofs.scanning.longest_of_phase.Given as goal

abbrev pub invariant-loop-arrival : goal.invariant-loop-arrival
invariant-loop-arrival l = IsScannedTo l.stops l.ends l.place l.phase l.ticks l.stride l.end l.longest l.arrival

abbrev pub decreases-loop-arrival : goal.decreases-loop-arrival
decreases-loop-arrival l = l.end - l.arrival
