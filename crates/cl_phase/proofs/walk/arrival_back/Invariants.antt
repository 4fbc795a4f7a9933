use Rattle.std.proofs.Common.{◌≡◌, ◌+◌, ◌-◌, ◌*◌, ◌≤◌}
use Rattle.cl_stim.specs.Integers.{IsIntegerWithin}
use Rattle.cl_phase.specs.{Pace.previous, Walks.{pace_at, back}, Inner.Ranges.FARTHEST_START}
use Rattle.cl_phase.proofs.WalkRanges.{HOP}
use Rattle.cl_phase.proofs.walk.arrival_back.Given as goal

abbrev pub invariant-loop-here : goal.invariant-loop-here
invariant-loop-here l = record {
  within : l.here ≤ l.place;
  ahead : l.to ≤ l.here;
  leads : l.moment ≡ back l.stops l.place (previous (pace_at l.stops l.place) l.arrival) (l.place - l.here);
  near : IsIntegerWithin (FARTHEST_START + (l.place + 1 - l.here) * HOP) l.moment;
}

abbrev pub decreases-loop-here : goal.decreases-loop-here
decreases-loop-here l = l.here
