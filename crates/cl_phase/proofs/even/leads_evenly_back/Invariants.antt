use Rattle.std.proofs.Common.{◌≡◌, ◌+◌, ◌-◌, ◌*◌, ◌≤◌, pos}
use Rattle.cl_stim.specs.Integers.{IsIntegerWithin}
use Rattle.cl_phase.specs.{Walks.pace_at, Inner.{Even.LeadsEvenly, Ranges.FARTHEST_START}}
use Rattle.cl_phase.proofs.{EvenHops.back_to, WalkRanges.HOP}
use Rattle.cl_phase.proofs.even.leads_evenly_back.Given as goal

abbrev pub invariant-loop-here : goal.invariant-loop-here
invariant-loop-here l = record {
  within : l.here ≤ l.place;
  evenly : LeadsEvenly (pace_at l.stops l.here) (back_to l.stops l.place (l.place - l.here)) l.arrival l.stride l.strides;
  one : l.one ≡ back_to l.stops l.place (l.place - l.here) (pos l.arrival);
  other : l.other ≡ back_to l.stops l.place (l.place - l.here) (pos (l.arrival + l.strides * l.stride));
  one_near : IsIntegerWithin (FARTHEST_START + (l.place + 1 - l.here) * HOP) l.one;
  other_near : IsIntegerWithin (FARTHEST_START + (l.place + 1 - l.here) * HOP) l.other;
}

abbrev pub decreases-loop-here : goal.decreases-loop-here
decreases-loop-here l = l.here
