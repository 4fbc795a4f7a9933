use Rattle.std.proofs.Common.{◌≡◌, ◌+◌, ◌-◌, ◌*◌, pos}
use Rattle.cl_stim.specs.Integers.{IsIntegerWithin}
use Rattle.cl_phase.specs.{Walks.pace_at, Inner.{Even.LeadsEvenly, Ranges.FARTHEST_START}}
use Rattle.cl_phase.proofs.{EvenHops.onward_to, WalkRanges.HOP}
use Rattle.cl_phase.proofs.even.leads_evenly_onward.Given as goal

abbrev pub invariant-loop-i : goal.invariant-loop-i
invariant-loop-i l = record {
  evenly : LeadsEvenly (pace_at l.stops (l.i - 1)) (onward_to l.stops l.place (l.i - (l.place + 1))) l.arrival l.stride l.strides;
  one : l.one ≡ onward_to l.stops l.place (l.i - (l.place + 1)) (pos l.arrival);
  other : l.other ≡ onward_to l.stops l.place (l.i - (l.place + 1)) (pos (l.arrival + l.strides * l.stride));
  one_near : IsIntegerWithin (FARTHEST_START + l.i * HOP) l.one;
  other_near : IsIntegerWithin (FARTHEST_START + l.i * HOP) l.other;
}
