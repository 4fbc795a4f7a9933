use Rattle.std.proofs.Common.{◌≡◌, ◌+◌, ◌-◌, ◌≤◌, length}
use Rattle.cl_exact.specs.Inner.Fronts.{AreGreatestTo}
use Rattle.cl_exact.proofs.front_scan.greatest_of_fronts.Given as goal

abbrev pub invariant-loop-done : goal.invariant-loop-done
invariant-loop-done l = record {
  within : l.done ≤ l.count;
  ends : length l.ends ≡ 1024;
  starts : length l.starts ≡ 1024;
  room : length l.greatest ≡ 64;
  greatest : AreGreatestTo l.beats l.size l.first (l.first + l.done) l.greatest;
}

abbrev pub decreases-loop-done : goal.decreases-loop-done
decreases-loop-done l = l.count - l.done
