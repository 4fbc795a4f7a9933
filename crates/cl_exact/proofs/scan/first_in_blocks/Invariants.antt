use Rattle.std.proofs.Common.{◌≡◌, ◌-◌, ◌≤◌, length}
use Rattle.cl_exact.specs.Inner.Scans.{NoneHas}
use Rattle.cl_exact.proofs.scan.first_in_blocks.Given as goal

abbrev pub invariant-loop-done : goal.invariant-loop-done
invariant-loop-done l = record {
  within : l.done ≤ l.count;
  ends : length l.ends ≡ 1024;
  starts : length l.starts ≡ 1024;
  none : NoneHas l.beats l.first l.done l.reaction;
}

abbrev pub decreases-loop-done : goal.decreases-loop-done
decreases-loop-done l = l.count - l.done
