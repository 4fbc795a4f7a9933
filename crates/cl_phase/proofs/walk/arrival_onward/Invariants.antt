use Rattle.std.proofs.Common.{◌≡◌, ◌+◌, ◌-◌, ◌*◌}
use Rattle.cl_stim.specs.Integers.{IsIntegerWithin}
use Rattle.cl_phase.specs.{Walks.onward, Inner.Ranges.FARTHEST_START}
use Rattle.cl_phase.proofs.WalkRanges.{HOP}
use Rattle.cl_phase.proofs.walk.arrival_onward.Given as goal

abbrev pub invariant-loop-i : goal.invariant-loop-i
invariant-loop-i l = record {
  leads : l.moment ≡ onward l.stops l.place l.arrival (l.i - (l.place + 1));
  near : IsIntegerWithin (FARTHEST_START + l.i * HOP) l.moment;
}
