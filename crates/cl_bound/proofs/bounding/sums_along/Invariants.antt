use Rattle.std.proofs.Common.{◌≡◌, ◌*◌, ◌^◌, take}
use Rattle.cl_runs.specs.SystemOf.{system_of}
use Rattle.cl_stim.specs.Integers.{IsIntegerWithin}
use Rattle.cl_hop.specs.Sums.{sums_of}
use Rattle.cl_bound.specs.Bounds.{settled_timings}
use Rattle.cl_bound.proofs.bounding.sums_along.Given as goal

abbrev pub invariant-loop-group : goal.invariant-loop-group
invariant-loop-group l = record {
  sums : l.sums ≡ sums_of l.fn.first (take l.group-index (settled_timings (system_of l.model) l.groups));
  forward : IsIntegerWithin (l.group-index * 2 ^ 65) l.sums.forward;
  backward : IsIntegerWithin (l.group-index * 2 ^ 65) l.sums.backward;
}
