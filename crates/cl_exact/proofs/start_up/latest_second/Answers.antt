use Rattle.std.proofs.Common.{arith}
use Rattle.cl_exact.proofs.WalkFacts.{latest_more}
use Rattle.cl_exact.proofs.start_up.latest_second.Goals as goal

pub loop-beat-preserved : goal.loop-beat-preserved
loop-beat-preserved c = record {
  above = latest_more c.args.beats.now c.loop-beat.beat-index c.loop-beat.latest c.max-latest.result c.max-latest.ensures c.loop-beat.invariant.above;
  least = λ other above. omega (arith, c.max-latest.ensures, c.loop-beat.invariant.least other above, above c.loop-beat.beat-index (omega (arith, c.loop-beat-test.true)));
}
