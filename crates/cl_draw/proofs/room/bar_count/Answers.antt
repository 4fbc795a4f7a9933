use Rattle.std.proofs.Common.{◌<◌, length, arith}
use Rattle.cl_draw.proofs.RoomFacts.{bars_here, bars_more}
use Rattle.cl_draw.proofs.room.bar_count.Goals as goal

pub loop-task-preserved : goal.loop-task-preserved
loop-task-preserved c =
    let known : c.loop-task.task < length c.args.rows.now = omega (arith, c.loop-task-test.true, c.tasks-task-end.ensures.count, c.requires.count) in
    record {
      bars = omega (
        arith,
        c.len.ensures,
        c.len-in-loop-task.ensures,
        bars_more c.args.rows.now c.loop-task.task c.loop-task.bars c.index-rows-task.result _ known c.index-rows-task.is c.loop-task.invariant.bars,
      );
      most = omega (
        arith,
        c.loop-task.invariant.most,
        c.len.ensures,
        c.len-in-loop-task.ensures,
        bars_here c.args.rows.now c.loop-task.task c.index-rows-task.result _ known c.index-rows-task.is,
        c.requires.few c.loop-task.task (omega (arith, known, c.requires.count)),
      );
    }
