use Rattle.std.proofs.Common.{◌≡◌, ◌*◌, ◌≤◌}
use Rattle.std.specs.Prelude.{sum_by}
use Rattle.std.specs.List.{range_with_len}
use Rattle.cl_draw.specs.{declared.room.TheConstants.MOST_BARS, Lengths.bars_of_task}
use Rattle.cl_draw.proofs.room.bar_count.Given as goal

abbrev pub invariant-loop-task : goal.invariant-loop-task
invariant-loop-task l = record { bars : l.bars ≡ sum_by (bars_of_task l.rows) (range_with_len 0 l.task); most : l.bars ≤ MOST_BARS * l.task }
