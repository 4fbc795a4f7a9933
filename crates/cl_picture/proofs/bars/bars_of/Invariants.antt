use Rattle.std.proofs.Common.{◌≡◌, None, ◌++◌, drop}
use Rattle.cl_picture.specs.Bars.{bars_from}
use Rattle.cl_picture.proofs.bars.bars_of.Given as goal

abbrev pub invariant-loop-item : goal.invariant-loop-item
invariant-loop-item l = l.bars ++ bars_from l.window l.before (drop l.item-index l.items) ≡ bars_from l.window None l.items
