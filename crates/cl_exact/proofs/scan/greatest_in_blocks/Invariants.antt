use Rattle.std.proofs.Common.{◌≡◌, ◌-◌, ◌≤◌, length}
use Rattle.cl_exact.specs.Inner.Scans.{IsGreatestOf}
use Rattle.cl_exact.proofs.scan.greatest_in_blocks.Given as goal

abbrev pub invariant-loop-done : goal.invariant-loop-done
invariant-loop-done l = record {
  within : l.done ≤ l.count;
  ends : length l.ends ≡ 1024;
  starts : length l.starts ≡ 1024;
  greatest : IsGreatestOf l.beats l.first l.done l.greatest;
}

abbrev pub decreases-loop-done : goal.decreases-loop-done
decreases-loop-done l = l.count - l.done
