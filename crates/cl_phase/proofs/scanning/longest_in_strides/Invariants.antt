use Rattle.std.proofs.Common.{◌+◌, ◌-◌, ◌*◌, ◌≤◌, max}
use Rattle.cl_phase.specs.Inner.Scanned.{AreLongestFrom, IsInStrides}
use Rattle.cl_phase.proofs.scanning.longest_in_strides.Given as goal

abbrev pub invariant-loop-done : goal.invariant-loop-done
invariant-loop-done l = record {
  longest : AreLongestFrom l.stops l.ends l.place (IsInStrides l.first l.stride l.done) l.longest;
  within : l.done ≤ l.strides;
  some : 1 ≤ l.leap;
  few : l.leap ≤ max 1 (l.strides - l.done);
}

abbrev pub decreases-loop-done : goal.decreases-loop-done
decreases-loop-done l = 2 * (l.strides - l.done) + l.leap
